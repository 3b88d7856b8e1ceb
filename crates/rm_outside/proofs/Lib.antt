pub mod Fronts
pub mod SlotLemmas
pub mod ClockLemmas
