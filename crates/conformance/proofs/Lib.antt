pub mod Numbers
pub mod Paths
pub mod Commits
pub mod Syncs
pub mod Tables
pub mod Legal
pub mod Texts
pub mod Bounds
