pub mod Strips
pub mod Answer
