pub mod ListLemmas
pub mod WholeLemmas
