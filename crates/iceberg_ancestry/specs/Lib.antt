pub mod Ancestry
pub mod ById
