pub mod Scan
pub mod LineBefore
