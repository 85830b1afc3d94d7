pub mod Search
pub mod Tally
