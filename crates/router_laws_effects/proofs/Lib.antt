pub mod OwnWrites
pub mod GuardLemmas
pub mod TermsKeep
pub mod GuardedRuns
