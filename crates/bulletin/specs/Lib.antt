pub mod Mnd
pub mod Starts
pub mod Bulletin
pub mod Report
pub mod View
pub mod Kept
pub mod Front
pub mod Below
