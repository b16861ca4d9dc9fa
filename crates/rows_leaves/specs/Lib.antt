pub mod Laying
pub mod Invariant
pub mod Shares
