pub mod Forming
pub mod Keeping
pub mod Putting
