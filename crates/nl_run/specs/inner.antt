pub mod Cells
pub mod Codes
pub mod Moves
pub mod Once
pub mod Starting
