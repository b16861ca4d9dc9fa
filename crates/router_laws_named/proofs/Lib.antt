pub mod Places
pub mod Deployments
