pub mod Laws
pub mod Windows
mod Ways
