pub mod Lines
pub mod Numerals
pub mod Putting
pub mod Lined
pub mod IntegerWays
