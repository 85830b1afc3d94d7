pub mod Entries
pub mod References
