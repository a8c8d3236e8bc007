pub mod Filing
pub mod Redirecting
