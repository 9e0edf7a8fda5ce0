pub mod Equations
pub mod Verdicts
