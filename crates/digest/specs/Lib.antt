pub mod Fold
pub mod Parts
pub mod Count
pub mod Window
