pub mod Laws
pub mod Sweep
pub mod Varied
pub mod inner
