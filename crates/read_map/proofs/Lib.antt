pub mod Ranked
pub mod Lines
