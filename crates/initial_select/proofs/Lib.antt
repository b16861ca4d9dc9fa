mod Finding
mod Picking
mod Handling
mod DigitLemmas
