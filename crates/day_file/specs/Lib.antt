pub mod Day
pub mod Versions
