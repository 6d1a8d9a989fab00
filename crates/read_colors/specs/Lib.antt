pub mod Colors
pub mod Held
