pub mod PathMaps
pub mod SourceColumns
