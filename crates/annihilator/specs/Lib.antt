pub mod Annihilator
pub mod Step
