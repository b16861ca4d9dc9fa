pub mod Asked
pub mod Listed
pub mod Placed
pub mod Taken
