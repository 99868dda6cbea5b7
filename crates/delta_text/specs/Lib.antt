pub mod Writing
pub mod Again
pub mod Tokens
