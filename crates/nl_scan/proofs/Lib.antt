pub mod CutLaws
pub mod Cutting
pub mod Firsts
pub mod Lines
pub mod Order
pub mod Runs
pub mod Writing
