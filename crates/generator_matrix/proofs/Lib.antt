pub mod Runs
pub mod Generators
