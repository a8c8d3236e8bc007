pub mod Around
pub mod Asked
pub mod State
pub mod Steps
