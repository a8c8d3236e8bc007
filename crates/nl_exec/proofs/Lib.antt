pub mod Ended
pub mod Opening
