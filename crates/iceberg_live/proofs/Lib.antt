pub mod EachLaws
pub mod LiveLaws
pub mod MetadataPathLaws
