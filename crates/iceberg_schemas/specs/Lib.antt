pub mod SchemaLists
pub mod SchemaOutlines
