pub mod Ends
mod Set
pub mod Accesses
