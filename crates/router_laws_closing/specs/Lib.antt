pub mod Idle
pub mod Loose
pub mod Keeping
pub mod TouchedRoots
pub mod TouchedActivities
