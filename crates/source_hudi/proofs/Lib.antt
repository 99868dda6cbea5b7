pub mod Publishable
pub mod UpToHead
pub mod Later
pub mod Unread
pub mod Refusals
pub mod Applying
pub mod Taken
pub mod SinceRefusals
