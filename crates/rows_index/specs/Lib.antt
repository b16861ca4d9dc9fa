pub mod Index
pub mod Tallies
pub mod Numbers
pub mod Found
