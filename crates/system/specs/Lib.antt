-- The definitions that the contracts cite.
pub mod Decode
pub mod Tlbi
pub mod Par
-- Worked cases, and the encodings by mnemonic, a second time and in numbers.
pub mod Cases
pub mod Levels
