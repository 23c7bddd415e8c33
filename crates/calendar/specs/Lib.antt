pub mod Calendar
pub mod Purge
pub mod Window
pub mod Serving
