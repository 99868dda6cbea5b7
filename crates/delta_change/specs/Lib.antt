pub mod TableBehind
pub mod Change
pub mod ChangeSteps
