pub mod Words
pub mod Standing
pub mod Levels
pub mod Going
pub mod Calling
pub mod Delivered
