-- What the contracts of `ranges_report` cite: where an address is mapped, what a list of ranges says of it.
pub mod Place
pub mod Block
