pub mod Document
pub mod Laws
pub mod Literals
pub mod Reading
pub mod Rows
pub mod inner
