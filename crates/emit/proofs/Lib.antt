pub mod Bit
pub mod Keys
pub mod Lines
pub mod Remove
pub mod Untaken
