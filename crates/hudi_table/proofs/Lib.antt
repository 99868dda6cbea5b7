pub mod Searches
pub mod TimeOrder
pub mod UpLists
pub mod FolderLaws
pub mod Gathered
pub mod ReadingLaws
pub mod FileLaws
pub mod Runs
