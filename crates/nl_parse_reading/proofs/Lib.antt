pub mod Capped
pub mod Framed
pub mod Indexed
pub mod Levels
pub mod Lists
pub mod Needs
pub mod Pending
pub mod Rows
