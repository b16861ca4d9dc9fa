pub mod Written
pub mod Lexemes
