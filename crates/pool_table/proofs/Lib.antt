pub mod RowsAfter
pub mod ChainsAfter
pub mod Places
pub mod SoundParts
