-- What the contracts of `reads_report` cite.
pub mod Rows
pub mod Named
pub mod Counting
