pub mod Put
pub mod Bytes
pub mod Runs
pub mod Decimal
