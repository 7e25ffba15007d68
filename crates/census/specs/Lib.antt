-- What a census counts, top to bottom; then what holds of every one.
pub mod Count
pub mod Cases
