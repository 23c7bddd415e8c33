pub mod Edited
pub mod Forms
