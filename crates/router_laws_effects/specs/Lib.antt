pub mod Runs
pub mod Guards
