pub mod Following
pub mod Hints
