pub mod Words
pub mod Slots
pub mod Bytes
pub mod Rows
