pub mod Write
pub mod Ink
pub mod Pen
