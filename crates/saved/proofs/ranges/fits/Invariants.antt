use Rattle.std.proofs.Common.{ℕ, ◌-◌, ◌<◌, ◌≤◌}
use Rattle.tlb.specs.Tlb.{entry_at}
use Rattle.saved.specs.Fits.{EntryFits}
use Rattle.saved.proofs.ranges.fits.Given as goal

abbrev pub invariant-loop-i : goal.invariant-loop-i
invariant-loop-i l = record {
  within : l.i ≤ 1024;
  so_far : (j : ℕ) → j < l.i → EntryFits (entry_at l.core.tlb j);
}

abbrev pub decreases-loop-i : goal.decreases-loop-i
decreases-loop-i l = 1024 - l.i
