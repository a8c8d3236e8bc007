pub mod Laws
pub mod Migrated
pub mod Plain
