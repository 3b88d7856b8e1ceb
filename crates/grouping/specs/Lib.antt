pub mod Totals
pub mod Tallying
pub mod Places
pub mod Gathering
pub mod Ending
pub mod Finishing
pub mod Batching
pub mod Answering
