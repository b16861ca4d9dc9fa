pub mod LinkLemmas
pub mod QueueLemmas
pub mod ResumingLemmas
pub mod CreatingLemmas
pub mod GoingLemmas
pub mod RemovingLemmas
