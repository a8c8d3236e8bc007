pub mod Cleared
pub mod Counted
pub mod Filled
pub mod Found
pub mod Holds
