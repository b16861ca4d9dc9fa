pub mod ApplyingLemmas
pub mod SignedLemmas
pub mod CreatingLemmas
pub mod DeclaredLemmas
pub mod FiringLemmas
pub mod DoingLemmas
