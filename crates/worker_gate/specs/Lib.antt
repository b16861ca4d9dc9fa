pub mod Hands
pub mod Moves
pub mod Works
