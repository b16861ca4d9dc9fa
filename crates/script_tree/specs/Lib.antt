pub mod Words
pub mod Tree
pub mod Grammar
pub mod Spelling
pub mod Lexer
pub mod Quotes
pub mod Reading
pub mod Script
