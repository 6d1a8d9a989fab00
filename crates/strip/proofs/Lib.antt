pub mod At
pub mod Sides
pub mod Turn
pub mod Same
pub mod Examples
pub mod Once
