pub mod Block
pub mod Content
pub mod Good
pub mod Held
