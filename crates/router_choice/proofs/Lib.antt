pub mod SelectLemmas
pub mod HandlerLemmas
pub mod NextLemmas
pub mod LeastLemmas
