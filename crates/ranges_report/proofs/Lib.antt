-- What the proofs share.
pub mod Blocks
pub mod Windows
pub mod Lists
pub mod Order
pub mod Steps
pub mod Fresh
