pub mod Forms
pub mod Outlines
