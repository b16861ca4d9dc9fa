pub mod Plans
pub mod Deliveries
