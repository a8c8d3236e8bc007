pub mod Laws
pub mod Links
pub mod Places
pub mod Queries
pub mod Reads
pub mod Sets
pub mod inner
