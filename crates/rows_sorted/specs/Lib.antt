pub mod Orders
pub mod Keys
pub mod Runs
pub mod Borders
