pub mod Ascending
pub mod Collected
pub mod OwnedRows
pub mod Placing
pub mod SlotNames
