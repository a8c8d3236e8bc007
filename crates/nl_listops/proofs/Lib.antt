pub mod Drawing
mod Examples
pub mod Fitting
pub mod Keeping
pub mod Listed
pub mod Parts
