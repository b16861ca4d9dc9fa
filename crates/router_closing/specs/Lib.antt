pub mod Timers
pub mod Held
pub mod Naming
pub mod Services
