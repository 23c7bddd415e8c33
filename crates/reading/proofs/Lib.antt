pub mod Rests
pub mod Blocks
pub mod Contents
pub mod Placing
pub mod OneToOne
