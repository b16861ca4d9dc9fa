pub mod Things
pub mod Done
pub mod Masked
pub mod Rows
pub mod Counting
