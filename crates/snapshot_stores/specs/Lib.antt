pub mod Flat
pub mod Ready
pub mod Storing
