pub mod Laws
pub mod Ways
mod Lengths
