use Rattle.std.proofs.Common.{◌-◌, ◌+◌, ◌≤◌}
use Rattle.saved.specs.CoreOf.{word}
use Rattle.saved.specs.Places.{GENERAL}
use Rattle.saved.proofs.Filling.{Filled}
use Rattle.saved.proofs.restore.read_general.Given as goal

abbrev pub invariant-loop-i : goal.invariant-loop-i
invariant-loop-i l = record {
  within : l.i ≤ 31;
  so_far : Filled (λ n. word l.words (GENERAL + n)) 31 l.i l.x;
}

abbrev pub decreases-loop-i : goal.decreases-loop-i
decreases-loop-i l = 31 - l.i
