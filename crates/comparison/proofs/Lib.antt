pub mod Runs
pub mod Pairing
pub mod Words
pub mod Walking
pub mod Going
pub mod Demand
pub mod PositionBound
