pub mod Faults
pub mod Parts
pub mod Names
pub mod Lists
pub mod Holding
