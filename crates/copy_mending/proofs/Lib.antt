pub mod Copying
pub mod Mending
pub mod Rows
