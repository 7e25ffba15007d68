pub mod Filling
pub mod Saving
pub mod Whole
pub mod Named
