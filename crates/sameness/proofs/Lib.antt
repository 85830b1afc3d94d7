pub mod Items
pub mod Alike
pub mod Going
