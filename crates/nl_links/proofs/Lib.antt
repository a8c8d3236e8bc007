pub mod Borders
pub mod Doubled
pub mod Filters
pub mod Holding
pub mod Joins
