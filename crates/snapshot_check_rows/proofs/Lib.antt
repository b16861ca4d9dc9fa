pub mod FitLemmas
pub mod DeclaredLemmas
pub mod FoundLemmas
pub mod EntityLemmas
pub mod ActivityLemmas
pub mod QueueLemmas
