pub mod Escapes
pub mod Steps
pub mod Noting
pub mod NotingIds
pub mod Items
