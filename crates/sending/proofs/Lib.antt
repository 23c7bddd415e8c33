pub mod Ways
pub mod OneToOne
pub mod Table
