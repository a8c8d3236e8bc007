pub mod Apart
pub mod Stops
