pub mod Motion
pub mod Climbing
pub mod Diffusion
pub mod Laws
