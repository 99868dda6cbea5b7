pub mod Versions
pub mod Log
pub mod Pieces
pub mod Refusals
pub mod SameVersions
