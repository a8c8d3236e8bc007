pub mod Stage
pub mod Fails
pub mod Words
pub mod Acts
pub mod Performing
