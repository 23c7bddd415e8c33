pub mod Admission
pub mod Copies
