pub mod Commit
pub mod Actions
pub mod Grammar
pub mod Sound
pub mod Judging
pub mod Adding
pub mod Readable
pub mod VersionName
