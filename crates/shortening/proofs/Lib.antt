pub mod Mother
pub mod Basing
pub mod Division
pub mod Quotient
pub mod Shortening
pub mod Lengthening
pub mod Extending
pub mod Shortened
