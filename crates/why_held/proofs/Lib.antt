pub mod Paths
pub mod Going
pub mod Finding
pub mod Answered
pub mod Writing
pub mod Keys
pub mod WhyDemand
