pub mod Ids
pub mod IdMap
pub mod OwnIds
