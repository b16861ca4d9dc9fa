pub mod Lines
pub mod Trace
pub mod Ends
pub mod Views
pub mod Histories
pub mod Decimals
pub mod Words
pub mod Reading
