pub mod Members
pub mod Counting
pub mod Naming
pub mod Holding
pub mod Keepable
