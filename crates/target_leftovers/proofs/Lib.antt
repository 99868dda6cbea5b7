pub mod NameLemmas
pub mod ReachedLaws
pub mod ProperLaws
