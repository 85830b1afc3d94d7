pub mod Leaves
pub mod Found
pub mod WordWays
