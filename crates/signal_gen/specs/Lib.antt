pub mod Draws
pub mod Firing
pub mod Generator
pub mod Seen
