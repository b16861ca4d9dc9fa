pub mod Sources
pub mod Hints
pub mod Texts
