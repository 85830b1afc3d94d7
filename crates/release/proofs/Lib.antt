pub mod Judged
pub mod Clause
pub mod ReleaseDemand
pub mod Search
pub mod Compared
pub mod Case
