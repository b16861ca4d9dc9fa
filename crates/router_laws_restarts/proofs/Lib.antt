pub mod Reaching
pub mod OrderlyRuns
