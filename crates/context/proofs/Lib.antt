pub mod Others
pub mod Order
pub mod Around
pub mod Places
