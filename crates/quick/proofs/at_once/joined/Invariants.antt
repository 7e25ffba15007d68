-- The sum of the bytes from `i` on.
use Rattle.std.proofs.Common.{◌≡◌, ◌-◌, ◌^◌, ◌<◌, ◌≤◌}
use Rattle.cpu.specs.Bytes.{split_value}
use Rattle.quick.proofs.at_once.joined.Given as goal

abbrev pub invariant-loop-i : goal.invariant-loop-i
invariant-loop-i l = (l.i ≤ l.n) × (l.v ≡ split_value l.base l.ram l.p l.i (l.n - l.i)) × (l.v < 256 ^ (l.n - l.i))

abbrev pub decreases-loop-i : goal.decreases-loop-i
decreases-loop-i l = l.i
