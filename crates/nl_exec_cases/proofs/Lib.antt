pub mod Choosing
pub mod Statements
pub mod Binding
pub mod Sharing
