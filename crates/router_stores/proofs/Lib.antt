pub mod FaultLemmas
pub mod RoomLemmas
pub mod ServiceLemmas
pub mod ReadyLemmas
pub mod ChangingLemmas
pub mod BegunLemmas
pub mod MakingLemmas
pub mod PartLemmas
