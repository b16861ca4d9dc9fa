pub mod Views
pub mod Names
pub mod Roots
pub mod Room
