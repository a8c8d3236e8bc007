pub mod Arena
pub mod Seen
