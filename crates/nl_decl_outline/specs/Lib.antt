pub mod Declarations
pub mod Laws
pub mod Lengths
pub mod Named
pub mod Outline
pub mod inner
