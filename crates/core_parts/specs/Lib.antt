pub mod Read
pub mod Put
pub mod Set
pub mod Numbers
pub mod Accesses
