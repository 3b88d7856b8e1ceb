pub mod Cells
pub mod Seen
pub mod SystemTables
pub mod TableRows
