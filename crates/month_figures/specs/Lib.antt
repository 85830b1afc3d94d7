pub mod Figures
pub mod State
pub mod Code
