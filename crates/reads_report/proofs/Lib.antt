-- What the contracts of `reads_report` rest on.
pub mod Laws
pub mod Same
