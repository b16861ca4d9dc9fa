pub mod CodesOfParts
pub mod Keys
pub mod ByEvents
pub mod Counting
pub mod Ranks
pub mod Indexes
