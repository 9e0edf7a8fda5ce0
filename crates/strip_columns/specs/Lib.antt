pub mod Column
pub mod Strips
