pub mod Numbered
pub mod Records
pub mod Values
