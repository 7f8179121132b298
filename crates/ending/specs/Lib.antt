pub mod Mirror
pub mod Clear
pub mod Held
pub mod Closing
pub mod Ends
