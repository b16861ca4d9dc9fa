pub mod Deploying
pub mod Held
pub mod Masks
