pub mod Stack
pub mod Works
pub mod Steadying
pub mod Stops
pub mod Following
pub mod Hurrying
