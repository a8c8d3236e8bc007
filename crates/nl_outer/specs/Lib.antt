pub mod Bytes
pub mod Faults
pub mod Folder
pub mod Host
pub mod Memory
pub mod Nouns
