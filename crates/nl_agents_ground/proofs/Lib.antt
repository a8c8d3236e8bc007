pub mod Cleared
pub mod Patched
