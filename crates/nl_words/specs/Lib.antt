pub mod Kinds
pub mod Row
pub mod RowCode
pub mod Rows
pub mod Table
