pub mod Building
pub mod Items
pub mod Paths
pub mod Told
