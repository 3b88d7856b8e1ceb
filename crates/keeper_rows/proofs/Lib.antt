mod OpeningLemmas
mod RowLemmas
