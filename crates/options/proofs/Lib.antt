pub mod CommandLineLemmas
pub mod NumeralLemmas
pub mod OptionsLemmas
pub mod WithinLaws
pub mod WorkloadLemmas
