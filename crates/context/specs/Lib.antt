pub mod Map
pub mod Order
