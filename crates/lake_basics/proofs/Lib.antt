pub mod Truth
pub mod Numbers
pub mod Options
pub mod Lists
pub mod Texts
pub mod Lines
pub mod Each
pub mod Steps
