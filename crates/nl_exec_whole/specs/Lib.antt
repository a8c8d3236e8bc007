pub mod Looks
pub mod Parts
pub mod Scopes
pub mod Settings
pub mod Texts
