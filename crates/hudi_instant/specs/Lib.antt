pub mod InstantGrammar
pub mod InstantText
pub mod InstantTokens
pub mod Instants
