pub mod ClockLemmas
pub mod LaidLemmas
pub mod RowLemmas
pub mod ServiceLemmas
pub mod TakingLemmas
