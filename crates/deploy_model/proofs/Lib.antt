mod BuiltInLemmas
pub mod Noting
pub mod NotingIds
pub mod Faultless
