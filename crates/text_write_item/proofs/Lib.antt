pub mod Puts
pub mod Spelled
