-- What the contracts of `tlb` cite.
pub mod Answers
pub mod Tlb
pub mod Access
pub mod Live
pub mod Translate
pub mod Model
pub mod Asks
pub mod Runs
pub mod Worked
