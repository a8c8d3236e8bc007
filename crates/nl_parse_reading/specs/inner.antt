pub mod Asked
pub mod Counts
pub mod Depths
pub mod Known
pub mod Limit
pub mod NodesCode
pub mod Reading
pub mod View
