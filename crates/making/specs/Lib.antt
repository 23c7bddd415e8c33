pub mod Make
pub mod Fill
