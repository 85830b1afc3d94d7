pub mod LineWays
pub mod Whole
