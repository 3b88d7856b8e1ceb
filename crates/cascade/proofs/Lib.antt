pub mod Steps
pub mod PoolCaps
pub mod Moves
