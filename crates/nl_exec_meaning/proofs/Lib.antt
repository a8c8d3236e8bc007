mod ArrowExamples
mod CodeExamples
mod Heads
mod Inputs
mod Kept
mod Lists
mod Numbering
mod Raising
mod Resolved
mod Said
mod Sizes
pub mod AgentExamples
pub mod BirthsGround
pub mod CaseExamples
pub mod Endings
pub mod Examples
pub mod Families
pub mod Ground
pub mod Grounds
pub mod Living
pub mod Loops
pub mod Newest
pub mod RowExamples
pub mod Same
pub mod Samples
pub mod Soundness
pub mod Standing
pub mod Thrift
pub mod Weights
