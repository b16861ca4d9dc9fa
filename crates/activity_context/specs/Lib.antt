pub mod Views
pub mod Faults
pub mod Indexed
pub mod Naming
pub mod Kept
