pub mod Reads
pub mod Options
pub mod Simple
pub mod Bodies
pub mod Whole
