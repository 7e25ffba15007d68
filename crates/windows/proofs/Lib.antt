-- What the proofs share.
pub mod Reading
pub mod First
pub mod Decoding
pub mod Filling
pub mod Gathering
pub mod Pairing
pub mod Whole
pub mod Meaning
pub mod RightLaws
pub mod Encoding
pub mod Written
pub mod Answered
