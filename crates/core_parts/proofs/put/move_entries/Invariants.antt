use Rattle.std.specs.Prelude.{◌≡◌, ◌++◌, map, take, drop}
use Rattle.core_parts.specs.Put.{moved}
use Rattle.core_parts.proofs.put.move_entries.Given as goal

abbrev pub invariant-loop-e : goal.invariant-loop-e
invariant-loop-e l = l.entries ≡ map (moved l.from l.to) (take l.e-index l.fn.entries) ++ drop l.e-index l.fn.entries
