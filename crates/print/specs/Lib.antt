pub mod Texts
pub mod Integers
pub mod Items
pub mod Entries
