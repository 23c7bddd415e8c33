pub mod Tests
pub mod Tables
pub mod Lists
pub mod Lookups
pub mod Pastes
pub mod Stores
pub mod One
