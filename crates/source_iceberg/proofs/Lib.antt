pub mod AtHead
pub mod CountLaws
pub mod LaterLaws
pub mod Names
pub mod Present
pub mod Publishable
pub mod SinceLaws
