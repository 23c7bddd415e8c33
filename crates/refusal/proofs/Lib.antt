pub mod OneToOne
pub mod Exits
