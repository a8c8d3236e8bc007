pub mod Claiming
pub mod Gathering
pub mod Index
pub mod Ledger
pub mod Making
pub mod Marks
