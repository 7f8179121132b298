pub mod Selection
pub mod Choice
pub mod Steps
pub mod Neighbours
