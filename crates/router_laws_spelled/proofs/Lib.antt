pub mod Expressions
pub mod Statements
pub mod Programs
pub mod Characters
pub mod Tokens
pub mod Spellings
pub mod Texts
