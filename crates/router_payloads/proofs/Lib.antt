pub mod ShortLemmas
pub mod AgainLemmas
