pub mod Options
pub mod Parts
pub mod Dispatch
pub mod Priority
pub mod Steps
pub mod Blocks
pub mod Whole
