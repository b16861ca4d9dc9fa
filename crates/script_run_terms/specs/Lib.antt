pub mod Links
pub mod Writing
