-- The bytes from `i` on have the verdict of them all.
use Rattle.std.proofs.Common.{◌≡◌, ◌-◌, ◌≤◌}
use Rattle.cpu.specs.Bytes.{first_outside}
use Rattle.cpu.proofs.place.first_outside.Given as goal

abbrev pub invariant-loop-i : goal.invariant-loop-i
invariant-loop-i l = (l.i ≤ l.n) × (first_outside l.base l.len l.p l.i (l.n - l.i) ≡ first_outside l.base l.len l.p 0 l.n)

abbrev pub decreases-loop-i : goal.decreases-loop-i
decreases-loop-i l = l.n - l.i
