pub mod Done
pub mod Inside
pub mod Settling
pub mod Taking
pub mod Looked
pub mod Desk
pub mod Runs
pub mod Sessions
