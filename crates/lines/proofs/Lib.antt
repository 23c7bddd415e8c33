pub mod Strings
pub mod Ends
pub mod Scans
pub mod Checks
pub mod Tests
