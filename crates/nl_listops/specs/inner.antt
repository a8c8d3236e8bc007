-- What proofs need and no caller reads. A change here changes no meaning of a word.
pub mod Steps
