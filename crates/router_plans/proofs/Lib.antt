pub mod LineLemmas
pub mod BegunLemmas
pub mod ClosedLemmas
pub mod PlanLemmas
