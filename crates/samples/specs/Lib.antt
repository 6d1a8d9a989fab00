pub mod Samples
pub mod Narrow
