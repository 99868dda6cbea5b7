pub mod Feeding
pub mod Order
pub mod Laws
pub mod Steps
