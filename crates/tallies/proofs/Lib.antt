pub mod Tallies
pub mod Layers
pub mod DepthLaws
pub mod InParts
