use Rattle.std.proofs.Common.{◌-◌, ◌≤◌}
use Rattle.saved.specs.WordsOf.{word_of}
use Rattle.saved.proofs.Filling.{Filled}
use Rattle.saved.proofs.save.save.Given as goal

abbrev pub invariant-loop-place : goal.invariant-loop-place
invariant-loop-place l = record {
  within : l.place ≤ 5213;
  so_far : Filled (word_of l.core) 5213 l.place l.words;
}

abbrev pub decreases-loop-place : goal.decreases-loop-place
decreases-loop-place l = 5213 - l.place
