pub mod Soundness
pub mod Longest
