pub mod PartLemmas
pub mod ArgumentLemmas
pub mod FieldLemmas
mod LookupLemmas
