pub mod Walking
pub mod Settled
