pub mod Names
pub mod Translated
