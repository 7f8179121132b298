pub mod Limits
pub mod Spelling
pub mod Forms
pub mod Statements
pub mod Places
