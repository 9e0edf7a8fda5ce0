pub mod RoundTrip
pub mod Step
