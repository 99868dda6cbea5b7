pub mod WrittenLemmas
pub mod ShapeLemmas
pub mod SortedLemmas
pub mod AgainLemmas
pub mod TokenLemmas
