pub mod Reading
pub mod Values
pub mod Sources
pub mod Rows
pub mod Documents
pub mod Shapes
pub mod Scripts
pub mod Checking
