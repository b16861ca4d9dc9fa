pub mod Attempts
pub mod Checking
