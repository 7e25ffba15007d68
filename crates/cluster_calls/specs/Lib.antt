pub mod Four
pub mod Promise
pub mod Looks
pub mod Steps
pub mod Rows
pub mod Made
