pub mod Steady
pub mod Work
pub mod Rest
pub mod inner
