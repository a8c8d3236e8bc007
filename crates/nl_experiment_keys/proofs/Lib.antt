mod Depths
pub mod Keys
pub mod Relation
pub mod Texts
pub mod Walks
