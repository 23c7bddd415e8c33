pub mod Copies
pub mod Works
pub mod Finds
pub mod Admits
pub mod Ways
