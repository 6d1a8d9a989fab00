pub mod Context
pub mod Parts
