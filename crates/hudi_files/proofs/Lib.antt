pub mod FolderLemmas
pub mod StatLemmas
pub mod ValueLemmas
