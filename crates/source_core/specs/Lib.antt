pub mod Answers
pub mod Since
pub mod Histories
