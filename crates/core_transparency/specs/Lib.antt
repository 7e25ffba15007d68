pub mod OnCore
pub mod Run
pub mod Counters
pub mod Reads
pub mod Whole
pub mod Forms
