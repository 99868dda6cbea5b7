pub mod Lines
pub mod TableLines
