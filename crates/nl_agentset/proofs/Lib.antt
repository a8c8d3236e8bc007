pub mod Answering
pub mod Called
pub mod ChosenFits
mod Examples
pub mod Fits
pub mod Found
pub mod Inside
pub mod LawLemmas
pub mod Linked
pub mod Neighboring
pub mod Offsets
pub mod OnPatches
pub mod Walking
