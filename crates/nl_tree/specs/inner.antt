-- What the proofs and the tests of this crate need: it changes nothing of what the language is.
pub mod Samples
pub mod TermCode
pub mod TreeCode
pub mod TreeFalls
