pub mod Chain
pub mod Why
pub mod Code
