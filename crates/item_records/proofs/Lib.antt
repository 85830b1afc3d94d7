pub mod Counting
pub mod Entries
pub mod Values
