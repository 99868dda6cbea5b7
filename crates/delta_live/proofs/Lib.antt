pub mod LiveLemmas
pub mod BehindLemmas
pub mod OrderedLemmas
pub mod DifferenceLemmas
pub mod ValueLemmas
pub mod TextLemmas
pub mod RowLemmas
