pub mod Deliveries
pub mod Callbacks
pub mod Prepared
pub mod LastWords
