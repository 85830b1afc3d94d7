pub mod Words
pub mod Lines
pub mod Figured
pub mod Numbers
