pub mod ShapeLemmas
pub mod WrittenLemmas
