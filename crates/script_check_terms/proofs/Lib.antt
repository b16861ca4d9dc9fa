pub mod LookupLemmas
pub mod ChainLemmas
pub mod MakingLemmas
pub mod LinkLemmas
pub mod Depths
mod LocalLemmas
