pub mod CallLemmas
pub mod TidyLemmas
pub mod FlagLemmas
pub mod StepLemmas
pub mod MethodLemmas
