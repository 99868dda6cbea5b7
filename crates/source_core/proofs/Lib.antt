pub mod Answers
pub mod Runs
pub mod Heads
pub mod Lists
pub mod Files
pub mod Histories
