pub mod TidyScripts
pub mod RunLemmas
pub mod TidyStatements
pub mod TidyPrograms
pub mod CheckedLemmas
