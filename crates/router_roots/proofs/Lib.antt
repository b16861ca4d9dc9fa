pub mod ServiceLemmas
pub mod NameLemmas
pub mod SameLemmas
pub mod FindLemmas
pub mod ChangeLemmas
pub mod BothLemmas
pub mod FillLemmas
