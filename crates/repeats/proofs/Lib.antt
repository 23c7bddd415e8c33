pub mod Bits
pub mod Marking
pub mod Elements
pub mod Rising
pub mod Passes
pub mod Passing
