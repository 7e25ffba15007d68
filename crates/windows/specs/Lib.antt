-- What a list of windows means, top to bottom; then what holds of every one.
pub mod Window
pub mod List
pub mod Listed
pub mod Pages
pub mod Rows
pub mod Pairs
pub mod Error
pub mod Windows
pub mod Laws
pub mod Right
pub mod Cases
