pub mod KeyLemmas
pub mod KindLemmas
pub mod NumberLemmas
pub mod VariableLemmas
pub mod EffectLemmas
pub mod FlagLemmas
pub mod FoundLemmas
pub mod NamingLemmas
