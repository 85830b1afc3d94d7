pub mod Strike
pub mod Code
