pub mod Words
pub mod Sent
pub mod Literals
