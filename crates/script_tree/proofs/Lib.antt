pub mod Lexing
pub mod Places
pub mod Quoting
pub mod Rows
