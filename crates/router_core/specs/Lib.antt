pub mod States
pub mod Held
pub mod Choosing
pub mod Delivering
pub mod Restoring
