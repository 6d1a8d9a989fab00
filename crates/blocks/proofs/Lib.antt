pub mod Few
pub mod Front
pub mod Listed
pub mod Read
