pub mod Sound
pub mod Cut
pub mod CutPalette
pub mod Long
pub mod Within
pub mod Answered
