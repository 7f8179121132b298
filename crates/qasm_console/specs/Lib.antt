pub mod Printed
pub mod Parts
pub mod Sizes
pub mod Fitting
pub mod Demands
pub mod Examples
