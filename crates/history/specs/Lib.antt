-- Faithfulness: what a reader believes, top to bottom.
pub mod World
pub mod History
pub mod Invisible
pub mod Calls
pub mod Faithful
-- Several cores on one RAM, each as a machine of its own.
pub mod Delivered
pub mod SeenFrom
-- The plain model of the cache over a history.
pub mod ModelRun
pub mod ModelList
pub mod Tallies
-- The real registers and walk.
pub mod Window
pub mod Instance
pub mod Fresh
-- What follows from it, and how to show the premise.
pub mod Origin
pub mod Judgement
pub mod StepByStep
pub mod Neighbours
-- What is proved, as src/theorems.rt promises it.
pub mod Theorems
