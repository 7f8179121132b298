pub mod Moves
pub mod Choice
pub mod Orders
pub mod Sure
pub mod Nearest
