pub mod Ways
pub mod Files
pub mod Adding
pub mod Whole
pub mod Days
