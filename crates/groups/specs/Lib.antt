pub mod Histogram
pub mod Groups
pub mod Tables
