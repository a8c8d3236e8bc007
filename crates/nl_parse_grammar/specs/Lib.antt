pub mod Completion
pub mod Depth
pub mod Fault
pub mod Laws
pub mod Machine
pub mod Texts
pub mod TokenLaws
