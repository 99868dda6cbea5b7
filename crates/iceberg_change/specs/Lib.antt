pub mod Behind
pub mod Own
