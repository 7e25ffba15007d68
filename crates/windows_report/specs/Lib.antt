-- What the contracts of `windows_report` cite: what the pages of a window are answered, as a list and as runs, the pages that two windows share,
-- why a list is wrong, and what is told of it all.
pub mod Pages
pub mod Runs
pub mod Rows
pub mod Shared
pub mod Refusal
pub mod Told
