-- What the contracts of `fault` cite.
pub mod First
