pub mod Lift
