pub mod Fronts
pub mod Tops
pub mod Reports
pub mod Saying
pub mod Views
pub mod OneToOne
