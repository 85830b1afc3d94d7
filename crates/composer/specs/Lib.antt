pub mod Compose
pub mod Apart
pub mod Code
