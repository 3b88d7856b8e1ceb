pub mod Cells
pub mod Header
pub mod Left
pub mod Loading
pub mod Named
