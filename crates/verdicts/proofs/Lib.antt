pub mod Answered
pub mod First
pub mod Judged
pub mod Passing
pub mod Rows
pub mod Places
