pub mod AgainLemmas
pub mod IdLemmas
pub mod MalformedLemmas
pub mod ReadLemmas
