pub mod Births
pub mod Extremes
pub mod Groups
pub mod Telling
pub mod Turning
pub mod Turns
pub mod inner
