pub mod Adding
pub mod Code
