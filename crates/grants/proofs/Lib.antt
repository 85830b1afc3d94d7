pub mod Grants
pub mod Checked
pub mod Signed
pub mod RowWays
pub mod Verdict
