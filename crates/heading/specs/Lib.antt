pub mod Heading
pub mod Storm
pub mod Paper
