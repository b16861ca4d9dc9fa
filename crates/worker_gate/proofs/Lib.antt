pub mod HandLemmas
pub mod MoveLemmas
pub mod PassingLemmas
pub mod SharingLemmas
pub mod WorkLemmas
