pub mod Isles
