pub mod Pieces
pub mod Turning
pub mod Striking
pub mod Terms
pub mod Worked
