-- What the contracts of `audit` cite.
pub mod Answers
pub mod Counting
