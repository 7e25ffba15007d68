-- What the contracts of `flip_report` cite: what is told of a flipped bit.
pub mod Found
