pub mod Reading
pub mod Undo
pub mod Steps
pub mod Examples
