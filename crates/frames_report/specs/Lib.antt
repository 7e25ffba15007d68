-- What the contracts of `frames_report` cite.
pub mod Rows
