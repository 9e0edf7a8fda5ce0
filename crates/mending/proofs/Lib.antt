pub mod Held
pub mod Mended
pub mod Spliced
pub mod Groups
