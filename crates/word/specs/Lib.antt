pub mod Bits
pub mod Places
pub mod Ram
pub mod Tables
