pub mod Borne
pub mod Same
pub mod Told
pub mod Examples
