pub mod Grown
pub mod Counts
