pub mod Ranks
pub mod Moving
pub mod Keeping
