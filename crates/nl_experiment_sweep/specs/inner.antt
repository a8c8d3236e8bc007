-- What the proofs and the toolchain need and no caller reads: codes of settings, and what private functions work with.
pub mod Bounds
pub mod Codes
