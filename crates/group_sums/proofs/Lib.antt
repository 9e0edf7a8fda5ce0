pub mod Values
pub mod Strands
pub mod Sums
