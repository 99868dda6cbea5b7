pub mod Feeding
pub mod Calls
pub mod Laws
pub mod Views
pub mod Resuming
