pub mod Lines
pub mod Case
pub mod Translation
