pub mod Iceberg
pub mod IcebergSpelling
pub mod IcebergWriting
pub mod IcebergRefusal
pub mod NameMapping
