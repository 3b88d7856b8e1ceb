pub mod CellLemmas
pub mod HeaderLemmas
pub mod RecordsLemmas
pub mod RowLemmas
