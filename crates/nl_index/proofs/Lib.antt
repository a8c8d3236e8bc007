pub mod Borders
pub mod Filings
pub mod Filters
pub mod Indexes
pub mod Moves
