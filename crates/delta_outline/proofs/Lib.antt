pub mod WorseLemmas
pub mod WordLemmas
pub mod OwnLemmas
pub mod PartLemmas
pub mod OutlineLemmas
pub mod SpelledLemmas
