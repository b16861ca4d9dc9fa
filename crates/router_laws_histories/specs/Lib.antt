pub mod Fires
pub mod Words
pub mod Suspended
pub mod Restarts
