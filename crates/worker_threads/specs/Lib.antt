pub mod Seats
pub mod Sharing
