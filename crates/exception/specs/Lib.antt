-- The definitions that the contracts cite.
pub mod Pstate
pub mod Abort
pub mod Syndrome
pub mod Route
pub mod Entry
-- Worked cases, and the same a second time, in numbers.
pub mod Cases
