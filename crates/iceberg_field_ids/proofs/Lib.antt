pub mod IdMap
pub mod IdRange
pub mod IdsFor
pub mod IdsGiven
pub mod OwnIdsGiven
pub mod Widened
pub mod IcebergGiven
