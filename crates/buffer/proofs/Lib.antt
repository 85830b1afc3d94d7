pub mod ByteLaws
pub mod Putting
pub mod Numbers
pub mod RunLaws
pub mod DecimalLaws
pub mod DecimalWays
pub mod Decimals
