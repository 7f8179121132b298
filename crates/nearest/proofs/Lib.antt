pub mod Entry
pub mod Moving
pub mod Counting
pub mod Choosing
pub mod Sureness
pub mod Wholes
pub mod Nearness
pub mod Firsts
pub mod Moved
pub mod Lays
pub mod Tabled
mod Trying
