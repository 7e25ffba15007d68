-- Faithfulness of every list of calls.
pub mod Bridge
pub mod Answered
pub mod Alone
pub mod Instance
pub mod Steps
pub mod StepEvents
pub mod Claim
pub mod Beside
pub mod Looks
pub mod Census
pub mod Direct
pub mod Faithful
pub mod Judged
pub mod Faults
-- The plain model of the cache, call by call.
pub mod ModelCalls
pub mod Counted
pub mod LevelCounts
pub mod CallWork
pub mod CallReads
-- The bytes, and a worked list.
pub mod Bytes
pub mod Worked
pub mod PremiseRows
