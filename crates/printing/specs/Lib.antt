pub mod Asked
pub mod Answer
