pub mod PathLaws
pub mod LogLaws
pub mod PieceLaws
pub mod Runs
mod VersionRuns
mod NamedVersions
