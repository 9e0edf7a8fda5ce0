pub mod Pointing
pub mod Reading
pub mod Interpolating
pub mod Fronts
