pub mod GivenLemmas
pub mod OrderLemmas
pub mod LookupLemmas
pub mod TableLemmas
pub mod RowLemmas
pub mod ActingLemmas
