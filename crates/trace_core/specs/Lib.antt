-- What the contracts of `trace_core` cite.
pub mod Told
pub mod Shared
pub mod Flipped
