pub mod Errors
pub mod Meter
pub mod RunRow
pub mod Runs
