pub mod DeltaFound
pub mod DeltaOnly
pub mod DeltaSound
pub mod Fields
pub mod Spelled
pub mod DeltaSchema
pub mod DeltaRefused
