pub mod Births
pub mod Keeping
pub mod Laws
pub mod Links
pub mod Looks
pub mod Outcomes
pub mod inner
