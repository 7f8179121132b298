pub mod Replaying
pub mod Owned
