pub mod Mismatches
pub mod Probes
pub mod Texts
pub mod Told
pub mod Places
pub mod Deployed
