pub mod Laws
pub mod Lists
pub mod Orders
pub mod Telling
