pub mod Named
pub mod Windows
pub mod WindowsRows
pub mod Flip
pub mod FlipRows
pub mod Promise
