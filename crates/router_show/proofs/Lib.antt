pub mod ShowLemmas
pub mod KeyLemmas
pub mod KeptLemmas
pub mod OrderLemmas
pub mod ByteLemmas
