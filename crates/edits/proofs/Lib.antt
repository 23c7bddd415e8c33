pub mod Places
pub mod Ways
