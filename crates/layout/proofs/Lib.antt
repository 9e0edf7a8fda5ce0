pub mod Numbers
pub mod Spans
