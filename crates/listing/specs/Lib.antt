pub mod Bytes
pub mod Answers
pub mod Entries
pub mod Codes
