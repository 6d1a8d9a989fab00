pub mod Words
pub mod Sent
pub mod Levels
pub mod Colors
pub mod Widths
