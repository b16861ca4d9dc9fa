pub mod Views
pub mod Kept
pub mod Climbing
pub mod Depths
pub mod Lending
