pub mod Head
pub mod Spellings
