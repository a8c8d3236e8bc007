pub mod FaultText
pub mod Laws
pub mod Numbers
pub mod Plan
pub mod Texts
pub mod Widgets
