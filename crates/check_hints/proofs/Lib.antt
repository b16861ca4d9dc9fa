pub mod Fields
pub mod InParts
pub mod Items
pub mod Utf8
