pub mod Grants
pub mod Bytes
pub mod Verdict
