pub mod Acting
pub mod InOrder
