pub mod Compared
pub mod Release
pub mod Rows
