pub mod Deciding
pub mod Decided
pub mod Entries
pub mod Same
pub mod Searched
