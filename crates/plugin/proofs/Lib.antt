pub mod Ways
pub mod Readings
pub mod Finds
pub mod BookKept
pub mod Within
pub mod Headings
pub mod ReaderKept
pub mod OneToOne
