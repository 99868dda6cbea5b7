pub mod DateLemmas
pub mod ErrorLemmas
pub mod NameLemmas
pub mod NextLemmas
pub mod TimeLemmas
