pub mod Comparison
pub mod Code
