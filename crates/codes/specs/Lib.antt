pub mod Places
pub mod Elements
pub mod Block
pub mod Written
pub mod Cursor
pub mod Serving
