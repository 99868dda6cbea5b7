pub mod FileFaults
pub mod Stats
pub mod Values
