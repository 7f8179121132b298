pub mod Laws
pub mod Powers
pub mod Signs
