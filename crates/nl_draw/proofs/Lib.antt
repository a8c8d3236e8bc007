pub mod Words
pub mod Shuffles
pub mod Rows
