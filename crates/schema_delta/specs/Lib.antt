pub mod Delta
pub mod DeltaSpelling
pub mod DeltaWriting
pub mod DeltaRefusal
