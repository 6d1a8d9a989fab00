pub mod Inserted
pub mod Bits
pub mod Climb
