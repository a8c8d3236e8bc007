-- What the proofs and the toolchain need and no caller reads: steps of private functions, codes and measures of values. A change here changes no meaning of a value.
pub mod Appends
pub mod Codes
pub mod Contents
pub mod Falls
pub mod Rows
pub mod Weights
pub mod Kept
