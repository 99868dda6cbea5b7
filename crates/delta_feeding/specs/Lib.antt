pub mod Cut
pub mod Feeding
pub mod Laws
