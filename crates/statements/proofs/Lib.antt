pub mod Taken
pub mod Forth
pub mod Back
pub mod Words
pub mod Heads
pub mod OtherAngles
pub mod TwoReadings
