-- The code's answers: what a walk ends in, where it begins, and a table that it reads.
use Rattle.std.specs.Prelude.{ℕ, Option, Result}
use Rattle.walk.specs.declared.{level.Leaf.Leaf, level.WalkState.WalkState, table.Visit.Visit}

-- a leaf, or a fault status code
abbrev pub Walked : Type 0
Walked = Result Leaf ℕ

-- the first table, or the status of the fault that keeps the walk from beginning
abbrev pub Begin : Type 0
Begin = Result WalkState ℕ

-- a table, or none
abbrev pub Visited : Type 0
Visited = Option Visit
