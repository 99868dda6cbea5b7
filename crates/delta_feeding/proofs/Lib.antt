pub mod AnswerLemmas
pub mod CutLemmas
pub mod EarlyLemmas
pub mod PieceLemmas
pub mod LawLemmas
pub mod StateLemmas
