pub mod Chars
pub mod Text
pub mod Parse
pub mod Answer
