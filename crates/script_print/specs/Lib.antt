pub mod Layout
pub mod Proper
pub mod Beginnings
