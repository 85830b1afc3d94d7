pub mod Counting
pub mod Walking
pub mod Keeping
pub mod Sums
pub mod Adding
pub mod Months
