pub mod Json
pub mod Syntax
