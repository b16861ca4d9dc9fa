pub mod DeclaredLemmas
pub mod RowLemmas
pub mod CountedLemmas
pub mod FilingLemmas
pub mod LeastLemmas
pub mod UniqueLemmas
pub mod PutLemmas
pub mod RivalLemmas
