pub mod Live
pub mod Differences
pub mod RowSteps
