pub mod Keeping
pub mod Slices
pub mod Endings
pub mod Machines
pub mod inner
