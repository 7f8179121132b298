pub mod Whole
pub mod Reading
pub mod Beginning
pub mod Lending
pub mod InParts
pub mod Enough
pub mod Demands
pub mod Examples
