pub mod Digits
pub mod Gathering
pub mod Kept
pub mod Lone
pub mod Nothing
pub mod OneThing
pub mod Worlds
