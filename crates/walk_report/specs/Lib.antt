-- What the contracts of `walk_report` cite.
pub mod Told
pub mod Bits
pub mod Levels
