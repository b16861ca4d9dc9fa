pub mod AsRead
pub mod Headings
pub mod Applied
