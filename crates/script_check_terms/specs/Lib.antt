pub mod Answers
pub mod ScopeOf
pub mod SettingOf
pub mod TypedTerms
pub mod Rules
pub mod Links
pub mod KeptPlaces
