pub mod Seen
pub mod Suited
pub mod Behind
