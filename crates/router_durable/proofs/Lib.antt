pub mod HistoryLemmas
pub mod LineLemmas
pub mod Recovers
pub mod Replays
pub mod Steps
pub mod Opens
pub mod Takes
pub mod Compacts
