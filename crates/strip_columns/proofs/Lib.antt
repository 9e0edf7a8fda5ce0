pub mod Lengths
pub mod Putting
pub mod Done
