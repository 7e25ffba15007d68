mod Unchanged
pub mod Promised
pub mod Census
pub mod Windows
pub mod Said
pub mod Flip
