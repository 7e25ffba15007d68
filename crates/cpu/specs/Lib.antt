-- Calls, places and bytes: the checks 1 to 8; where the bytes of an access lie; how it ends; the replies.
pub mod Bytes
pub mod Check
pub mod CheckRows
-- Ends and places said once more, in numbers and by each byte's own address.
pub mod PlaceRows
-- The core and its memory: what contracts cite.
pub mod Core
pub mod Bare
pub mod Memory
-- What the theorems say: operations and answers, each byte by its own address.
pub mod Says
pub mod Asks
pub mod OwnAddress
-- What the core keeps, said once more.
pub mod Kept
pub mod System
-- A worked case of each regime.
pub mod Cases
-- The table of docs/SCOPE.md, "Where each answer is given": the checks, then the operations.
pub mod Step
-- What it reads of the tables.
pub mod Work
pub mod Reads
pub mod EveryCallEnds
-- Of two pages the lowest failing byte decides.
pub mod Crossing
