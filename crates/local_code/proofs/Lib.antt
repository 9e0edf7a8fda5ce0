pub mod Local
pub mod Horner
pub mod Symbols
