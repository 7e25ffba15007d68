-- The claim for every history: what a reader believes, top to bottom.
pub mod Claim
pub mod Steps
pub mod Bare
pub mod Replies
-- The theory of histories on it.
pub mod Events
pub mod Starts
pub mod Machine
pub mod Instance
pub mod Premise
pub mod Says
-- What is proved beside it.
pub mod Beside
pub mod Looks
pub mod Census
pub mod Direct
pub mod Faithful
pub mod Judged
pub mod Faults
-- A worked list, and the premise in numbers.
pub mod Worked
pub mod PremiseRows
-- The plain model of the cache, call by call.
pub mod ModelCalls
pub mod Counted
pub mod LevelCounts
pub mod Reads
-- The bytes.
pub mod Bytes
