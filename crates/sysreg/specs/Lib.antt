-- What the contracts of `sysreg` cite, and the laws that crates above cite.
pub mod Regs
pub mod Encoding
pub mod Write
pub mod Shape
pub mod Cases
