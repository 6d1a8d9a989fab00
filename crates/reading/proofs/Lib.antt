pub mod Inserted
pub mod Colors
pub mod Lines
pub mod Relisted
pub mod Undo
pub mod Answers
pub mod Ahead
pub mod Few
