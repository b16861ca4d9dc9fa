pub mod Setups
pub mod Numbers
pub mod Knowledge
pub mod Rule
pub mod Passes
