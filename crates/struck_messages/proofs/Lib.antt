pub mod Moves
pub mod Shorter
pub mod Kept
pub mod StruckDemand
pub mod StruckCompared
