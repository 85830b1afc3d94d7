pub mod Hits
pub mod Ranges
pub mod Right
pub mod InnerArms
pub mod TableWays
pub mod NameWays
