pub mod GrammarLemmas
pub mod PathForms
pub mod TextLemmas
pub mod TokenLemmas
