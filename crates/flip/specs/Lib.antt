-- What is asked, what a flipped bit is, and which is found, top to bottom; then what holds of every one.
pub mod Question
pub mod Flip
pub mod Found
pub mod Bits
pub mod Views
pub mod Laws
pub mod FirstDescriptor
pub mod Cases
