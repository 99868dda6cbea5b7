pub mod Names
pub mod Paths
pub mod Orderly
pub mod Settled
pub mod Runs
pub mod Laws
