pub mod LocalValues
pub mod Assigning
pub mod Aside
