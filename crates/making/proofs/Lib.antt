pub mod Openings
pub mod Made
pub mod Sounding
pub mod Filling
pub mod Indexing
pub mod Making
pub mod Writing
pub mod OneToOne
