pub mod Order
pub mod Plan
pub mod Picking
pub mod Told
pub mod Versions
pub mod Reading
pub mod Refusals
pub mod Removing
