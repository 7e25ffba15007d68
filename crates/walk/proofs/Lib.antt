pub mod Levels
pub mod WalkBounds
pub mod Order
pub mod Numbers
pub mod SizeLaws
pub mod Loop
