pub mod Live
pub mod LiveRows
pub mod MetadataPaths
