pub mod Showing
pub mod Moving
