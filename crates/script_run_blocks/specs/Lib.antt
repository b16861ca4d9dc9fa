pub mod Tidy
pub mod Loops
pub mod Stages
