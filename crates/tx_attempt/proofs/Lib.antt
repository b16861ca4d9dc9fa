pub mod SameLemmas
pub mod HoldsLemmas
pub mod AskingLemmas
