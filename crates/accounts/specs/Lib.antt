pub mod Accounts
pub mod Kept
pub mod Moves
pub mod Numbers
pub mod Sizes
