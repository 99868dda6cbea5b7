pub mod Laws
pub mod Depth
pub mod Grown
pub mod Turns
