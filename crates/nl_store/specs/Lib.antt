pub mod Counts
pub mod Held
pub mod Sound
pub mod Worlds
