pub mod Causes
pub mod Drilled
pub mod Formats
pub mod Lines
pub mod Playing
pub mod Scripted
pub mod Standing
