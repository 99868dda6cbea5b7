pub mod RangeName
pub mod Lines
pub mod Reconciled
pub mod Kinds
pub mod Taken
pub mod Agreeing
pub mod Same
pub mod Law
