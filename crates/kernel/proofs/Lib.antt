pub mod Roots
pub mod Widening
