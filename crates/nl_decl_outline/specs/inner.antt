pub mod Owners
pub mod Reading
pub mod Steps
