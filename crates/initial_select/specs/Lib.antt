pub mod Customs
pub mod Selections
pub mod Candidates
pub mod Digits
