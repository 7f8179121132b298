pub mod OrderParts
pub mod OrderGrows
pub mod OrderCode
pub mod GatherWorks
pub mod GatherCode
