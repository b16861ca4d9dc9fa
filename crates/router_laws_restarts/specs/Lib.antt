pub mod Reached
pub mod Orderly
