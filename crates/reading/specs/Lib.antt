pub mod Placed
pub mod Held
pub mod Rests
