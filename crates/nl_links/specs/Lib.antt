pub mod Ends
pub mod Hints
pub mod Laws
pub mod Sides
