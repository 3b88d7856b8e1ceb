pub mod Ended
pub mod Failures
pub mod Generator
pub mod Pools
pub mod Queries
pub mod Rested
pub mod Summary
pub mod Tallying
