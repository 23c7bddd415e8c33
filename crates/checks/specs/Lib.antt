pub mod Seal
pub mod Columns
pub mod Unused
