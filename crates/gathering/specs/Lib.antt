pub mod Order
pub mod Gather
