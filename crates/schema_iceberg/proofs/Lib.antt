pub mod FlatMapping
pub mod Gather
pub mod IcebergOnly
pub mod IcebergFound
pub mod IcebergSchema
pub mod IcebergRefused
pub mod IcebergWritten
pub mod IcebergSound
