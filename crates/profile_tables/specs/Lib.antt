pub mod Views
pub mod Faults
pub mod Keeping
pub mod Unique
pub mod Kept
