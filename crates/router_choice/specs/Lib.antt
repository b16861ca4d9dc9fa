pub mod Selecting
pub mod Choosing
pub mod Delivering
