pub mod Texts
pub mod SpelledRuns
pub mod SpelledTerms
pub mod SpelledSteps
