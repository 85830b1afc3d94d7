pub mod Upgrade
pub mod Code
