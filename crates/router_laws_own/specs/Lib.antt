pub mod Own
pub mod Deliveries
