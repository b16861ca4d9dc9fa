pub mod Takes
pub mod Reads
pub mod Levels
pub mod Queries
pub mod Lists
