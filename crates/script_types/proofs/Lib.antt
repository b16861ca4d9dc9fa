mod PlaceLemmas
mod TypingExamples
pub mod TypingLaws
pub mod ScopeLaws
pub mod RemoveLaws
pub mod ProgramRows
