pub mod Drill
pub mod Events
pub mod Histories
pub mod Vectors
