pub mod Layout
pub mod Sound
pub mod Tests
pub mod Rule
pub mod Lies
