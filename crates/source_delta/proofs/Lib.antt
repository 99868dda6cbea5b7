pub mod Publishable
pub mod Refusals
pub mod SinceLaws
