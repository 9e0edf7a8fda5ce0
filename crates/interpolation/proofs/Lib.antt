pub mod Shifting
pub mod Marks
pub mod Factor
pub mod Step
pub mod Settling
pub mod Uniqueness
