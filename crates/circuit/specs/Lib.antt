pub mod Flips
pub mod Circuit
pub mod Phase
pub mod State
