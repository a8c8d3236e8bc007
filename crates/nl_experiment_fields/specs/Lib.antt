pub mod Entries
pub mod File
pub mod Keys
pub mod Laws
pub mod Names
pub mod Reading
pub mod Written
pub mod inner
