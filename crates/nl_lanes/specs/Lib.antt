pub mod Laws
pub mod Pools
pub mod Rounds
pub mod Runs
pub mod Turns
pub mod inner
