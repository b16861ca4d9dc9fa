pub mod Views
pub mod Making
pub mod Ready
pub mod TableSpecs
pub mod Begun
pub mod Held
pub mod Filled
