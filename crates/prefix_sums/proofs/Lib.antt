pub mod SumLemmas
pub mod EndLemmas
pub mod LevelLemmas
