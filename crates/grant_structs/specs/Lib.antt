pub mod Bytes
pub mod Structs
