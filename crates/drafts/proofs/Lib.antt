pub mod CopyReads
pub mod Opens
pub mod Drops
pub mod Takes
