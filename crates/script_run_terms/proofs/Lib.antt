pub mod RunLemmas
pub mod NumberedLemmas
pub mod ChainLemmas
pub mod AskedLemmas
pub mod HandLemmas
