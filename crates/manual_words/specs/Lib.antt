-- What the contracts of `manual_words` cite.
pub mod Operations
pub mod Encodings
pub mod Status
pub mod Memory
pub mod Par
pub mod Syndrome
