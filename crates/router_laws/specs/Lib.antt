pub mod Samples
pub mod Forest
