use Rattle.std.proofs.Common.{◌≡◌, ◌+◌, ◌-◌, ◌≤◌}
use Rattle.digest.specs.Count.{how_many, some_at, counts_found}
use Rattle.digest.proofs.counts.found.Given as goal

abbrev pub invariant-loop-i : goal.invariant-loop-i
invariant-loop-i l = record {
  within : l.i ≤ 129;
  few : l.n ≤ l.i;
  rest : l.n + how_many (some_at l.counts) (129 - l.i) l.i ≡ counts_found l.counts;
}

abbrev pub decreases-loop-i : goal.decreases-loop-i
decreases-loop-i l = 129 - l.i
