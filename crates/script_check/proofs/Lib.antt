pub mod Tokens
pub mod BlockLemmas
