pub mod Keys
pub mod Tops
pub mod Roots
pub mod Closing
pub mod Tables
pub mod Divided
