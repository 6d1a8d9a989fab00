pub mod Scans
pub mod Fill
pub mod LineBefore
