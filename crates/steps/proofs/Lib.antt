pub mod Table
pub mod Chains
pub mod Order
pub mod Agree
pub mod Kept
pub mod Whole
pub mod Leaving
mod Examples
