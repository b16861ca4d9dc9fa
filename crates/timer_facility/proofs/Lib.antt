pub mod DueLemmas
pub mod ListLemmas
pub mod RowLemmas
pub mod FiredLemmas
pub mod AdvanceLemmas
pub mod WalkLemmas
pub mod KeptLemmas
pub mod ListingLemmas
