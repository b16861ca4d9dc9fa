pub mod Typed
pub mod Known
pub mod Walks
pub mod Declared
