pub mod Seals
pub mod Columns
pub mod Zeros
pub mod Unused
