-- After k calls core and bytes are those reached.
use Rattle.std.proofs.Common.{◌≡◌, ◌-◌, ◌/◌, ◌≤◌, length}
use Rattle.core_transparency.specs.Run.{reached, On}
use Rattle.core_transparency.proofs.run.Given as goal

abbrev pub invariant-loop-k : goal.invariant-loop-k
invariant-loop-k l = record {
  within : (l.k ≤ l.n) × (l.n ≡ length l.ops / 8);
  on : On (reached l.k l.ops l.base l.fn.ram) l.ram l.core;
}

abbrev pub decreases-loop-k : goal.decreases-loop-k
decreases-loop-k l = l.n - l.k
