pub mod Roots
pub mod Drops
