pub mod Drafts
pub mod After
pub mod Touched
pub mod Held
