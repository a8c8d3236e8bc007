-- What the proofs of this crate need: it changes nothing of what a table is.
pub mod Passed
