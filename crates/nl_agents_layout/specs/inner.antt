-- What only proofs need: steps of private functions. A change here changes no meaning of a layout.
pub mod Numbering
