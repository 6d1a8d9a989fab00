pub mod Fits
pub mod Follow
pub mod Lines
pub mod Lowest
pub mod Stream
