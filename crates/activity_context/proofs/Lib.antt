pub mod EndLemmas
pub mod FilingLemmas
pub mod LinkLemmas
pub mod NameLemmas
pub mod NamedLemmas
pub mod OwnLemmas
pub mod PushLemmas
