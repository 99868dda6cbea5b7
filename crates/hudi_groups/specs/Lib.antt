pub mod Files
pub mod Group
pub mod GroupIndex
pub mod GroupSets
