-- What proofs need and no caller reads: steps of private functions. A change here changes no meaning of a word.
pub mod Digests
pub mod Firsts
pub mod Pieces
pub mod Puts
pub mod Turning
