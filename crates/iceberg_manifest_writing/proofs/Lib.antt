pub mod ContainerLemmas
pub mod EntryLemmas
pub mod ListWrittenLemmas
pub mod ManifestWrittenLemmas
pub mod PartNameLemmas
pub mod StepLemmas
