pub mod Changing
pub mod LastStep
