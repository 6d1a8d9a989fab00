pub mod Palette
pub mod Accepted
pub mod Answer
pub mod Mapped
