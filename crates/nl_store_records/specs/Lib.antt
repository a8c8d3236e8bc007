pub mod Filed
pub mod Packed
pub mod Records
pub mod inner
