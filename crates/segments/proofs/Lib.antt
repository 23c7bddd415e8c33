pub mod Seeking
pub mod Purges
pub mod Keeping
pub mod Stepping
