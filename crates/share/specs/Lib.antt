pub mod Own
pub mod OwnTable
