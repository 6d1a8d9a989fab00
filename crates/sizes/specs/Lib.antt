pub mod Sizes
pub mod Order
pub mod Known
