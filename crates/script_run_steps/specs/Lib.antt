pub mod Flows
pub mod Firing
