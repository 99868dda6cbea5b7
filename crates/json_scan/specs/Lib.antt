pub mod Passing
pub mod Stated
