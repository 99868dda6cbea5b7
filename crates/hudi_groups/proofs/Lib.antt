pub mod AnyLemmas
pub mod GroupChangeLemmas
pub mod GroupIndexLemmas
pub mod GroupLemmas
pub mod GroupPathLemmas
pub mod GroupSetLemmas
pub mod NewestLemmas
