pub mod Sameness
pub mod Code
