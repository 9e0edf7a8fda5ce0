pub mod Exchange
pub mod Plane
