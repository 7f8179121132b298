pub mod Graph
pub mod Inside
pub mod Couplers
pub mod Ordered
