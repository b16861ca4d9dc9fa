pub mod Dependence
pub mod Asking
pub mod References
pub mod Told
pub mod Fitting
pub mod Forgetting
