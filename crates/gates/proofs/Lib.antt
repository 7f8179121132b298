pub mod Records
pub mod Places
pub mod Alls
pub mod Examples
pub mod Hadamards
