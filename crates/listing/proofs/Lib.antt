pub mod ReferenceWays
pub mod Stored
pub mod Table
pub mod Kept
pub mod Written
pub mod Outcome
pub mod EntryBytes
