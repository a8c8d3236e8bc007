pub mod Frames
pub mod Rests
