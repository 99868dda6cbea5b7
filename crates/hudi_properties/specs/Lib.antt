pub mod Escapes
pub mod Grammar
pub mod Lines
pub mod Pairs
pub mod TableFeatures
pub mod TableProperties
pub mod Written
