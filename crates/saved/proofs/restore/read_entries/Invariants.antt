use Rattle.std.proofs.Common.{◌-◌, ◌≤◌}
use Rattle.saved.specs.CoreOf.{word, entry_in}
use Rattle.saved.proofs.Filling.{Filled}
use Rattle.saved.proofs.restore.read_entries.Given as goal

abbrev pub invariant-loop-i : goal.invariant-loop-i
invariant-loop-i l = record {
  within : l.i ≤ 1024;
  so_far : Filled (entry_in (word l.words)) 1024 l.i l.entries;
}

abbrev pub decreases-loop-i : goal.decreases-loop-i
decreases-loop-i l = 1024 - l.i
