mod Quiet
pub mod OnCore
mod Hint
mod Looks
mod Steps
mod Meaning
mod Made
