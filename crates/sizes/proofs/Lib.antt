pub mod Parts
pub mod Turns
pub mod Those
pub mod Order
pub mod Levels
pub mod Leads
pub mod Sorted
pub mod Open
