pub mod Interpolated
pub mod Step
