use Rattle.std.proofs.Common.{◌≡◌, ◌-◌, ◌≤◌}
use Rattle.digest.specs.Fold.{digest_from, digest_of, gathered}
use Rattle.digest.specs.Parts.{word_alone}
use Rattle.digest.proofs.counts.digest.Given as goal

abbrev pub invariant-loop-i : goal.invariant-loop-i
invariant-loop-i l = record {
  within : l.i ≤ 129;
  rest : digest_from l.h (gathered (word_alone l.counts) (129 - l.i) l.i) ≡ digest_of (gathered (word_alone l.counts) 129 0);
}

abbrev pub decreases-loop-i : goal.decreases-loop-i
decreases-loop-i l = 129 - l.i
