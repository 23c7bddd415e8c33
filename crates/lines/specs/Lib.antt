pub mod Bytes
pub mod Lines
pub mod Check
pub mod Spans
pub mod Printables
