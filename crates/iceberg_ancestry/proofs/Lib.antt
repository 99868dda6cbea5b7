pub mod AncestryLemmas
