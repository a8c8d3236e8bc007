pub mod Coursing
pub mod Telling
