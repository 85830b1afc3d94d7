pub mod Byte
pub mod Head
pub mod Utf8
pub mod Answer
pub mod Keys
