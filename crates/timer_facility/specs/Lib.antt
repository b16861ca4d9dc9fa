pub mod Occurrences
pub mod Faults
pub mod Views
pub mod Kept
pub mod Indexed
