pub mod Texts
pub mod NewVersion
pub mod Behind
pub mod NextVersion
