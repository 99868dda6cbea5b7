pub mod PathMapLemmas
