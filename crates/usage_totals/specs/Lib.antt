pub mod Usage
pub mod Totals
pub mod Bounds
