pub mod Fields
pub mod Lines
pub mod WordText
pub mod Signals
pub mod Answers
pub mod Words
