pub mod Lines
pub mod Pattern
pub mod Lent
pub mod Room
pub mod Kinds
pub mod Page
