-- What the contracts of `quick` cite.
pub mod AtOnce
pub mod Says
