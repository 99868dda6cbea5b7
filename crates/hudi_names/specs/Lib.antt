pub mod Errors
pub mod Name
pub mod Next
pub mod Time
