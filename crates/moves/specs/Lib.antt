pub mod Named
pub mod Undo
