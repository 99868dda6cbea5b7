pub mod Blocks
pub mod Joinable
pub mod Refusals
pub mod Compacting
pub mod Steps
pub mod Whole
