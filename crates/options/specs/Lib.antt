pub mod Numeral
pub mod Machine
pub mod CommandLine
pub mod Script
pub mod Workload
pub mod Options
pub mod Within
