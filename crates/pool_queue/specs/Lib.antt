pub mod Heads
pub mod Kept
pub mod Lines
pub mod Numbers
pub mod Queue
pub mod Transfer
