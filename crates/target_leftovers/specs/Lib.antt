pub mod Names
pub mod Reached
pub mod Leftovers
pub mod Loose
