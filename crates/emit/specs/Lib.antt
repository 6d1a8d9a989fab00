pub mod Colors
pub mod Map
pub mod Keys
pub mod Lines
