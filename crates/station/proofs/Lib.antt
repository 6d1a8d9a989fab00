pub mod Arrays
pub mod Rows
