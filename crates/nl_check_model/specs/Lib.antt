pub mod FaultText
pub mod Laws
pub mod LoneLaws
pub mod LoneText
pub mod ModelFault
pub mod Verdict
pub mod inner
