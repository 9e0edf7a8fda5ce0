pub mod Sequence
pub mod Writing
pub mod Ring
pub mod Polynomial
pub mod Interpolation
pub mod EvaluationCode
pub mod Equations
pub mod Strand
