pub mod Forms
pub mod Storms
pub mod OneToOne
