pub mod Beside
pub mod Looping
pub mod Running
pub mod Telling
