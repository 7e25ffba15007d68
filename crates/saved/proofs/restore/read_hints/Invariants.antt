use Rattle.std.proofs.Common.{◌-◌, ◌≤◌}
use Rattle.saved.specs.CoreOf.{word, hint_in}
use Rattle.saved.proofs.Filling.{Filled}
use Rattle.saved.proofs.restore.read_hints.Given as goal

abbrev pub invariant-loop-i : goal.invariant-loop-i
invariant-loop-i l = record {
  within : l.i ≤ 512;
  so_far : Filled (hint_in (word l.words)) 512 l.i l.hints;
}

abbrev pub decreases-loop-i : goal.decreases-loop-i
decreases-loop-i l = 512 - l.i
