pub mod Reads
pub mod Steps
pub mod About
pub mod Applied
