-- The architecture's definitions, top to bottom.
pub mod Answers
pub mod Regime
pub mod Descriptor
pub mod Permission
pub mod Table
pub mod Walk
-- What `theorems` says of levels, and worked cases.
pub mod Cases
-- What holds of every walk.
pub mod WalkBounds
pub mod Order
-- How the code keeps the walk's variables.
pub mod State
