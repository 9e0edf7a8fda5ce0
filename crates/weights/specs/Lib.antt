pub mod RepairWeights
pub mod Weights
pub mod Promise
