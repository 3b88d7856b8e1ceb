pub mod Hashing
pub mod Known
pub mod Pacing
pub mod Tuple
