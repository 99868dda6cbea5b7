pub mod Causes
pub mod Change
pub mod GroupChange
pub mod Live
pub mod Schemas
pub mod Steps
