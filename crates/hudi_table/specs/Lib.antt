pub mod Instants
pub mod Folder
pub mod Files
pub mod Reading
pub mod Refusals
