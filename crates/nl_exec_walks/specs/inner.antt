-- What proofs need and no caller reads. A change here changes no meaning.
pub mod Passes
