-- Laws that the answers cite.
mod Both
mod ByHint
mod Works
mod OnePage
mod OneStore
mod Fetching
mod Checks
mod Setting
mod Line
pub mod Hinting
