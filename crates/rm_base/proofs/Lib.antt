pub mod NameLemmas
pub mod Names
pub mod Spelled
pub mod WellFormed
