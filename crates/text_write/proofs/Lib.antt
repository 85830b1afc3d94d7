pub mod Taking
pub mod Writing
pub mod Forming
pub mod Handing
