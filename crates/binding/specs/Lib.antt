pub mod Pack
pub mod Fill
