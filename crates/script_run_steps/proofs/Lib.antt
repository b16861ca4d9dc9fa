pub mod FieldLemmas
pub mod AssignLemmas
