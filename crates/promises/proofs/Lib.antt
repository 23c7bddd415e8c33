pub mod Table
pub mod Demands
