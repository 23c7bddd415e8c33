pub mod Months
pub mod Serving
