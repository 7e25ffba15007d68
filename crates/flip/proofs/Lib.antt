-- What the proofs share.
pub mod Search
pub mod Flipping
pub mod Finding
pub mod Frame
pub mod FoundLaws
pub mod LowBits
pub mod FlipLaws
pub mod Away
pub mod FirstDescriptor
pub mod ViewLaws
