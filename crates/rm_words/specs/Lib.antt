pub mod Class
pub mod Word
pub mod Scan
pub mod Cut
pub mod CutOf
pub mod Token
pub mod Names
pub mod Reading
