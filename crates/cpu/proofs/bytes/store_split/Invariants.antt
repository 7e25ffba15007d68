-- The bytes from `i` on have the verdict of them all, and what is left to write makes RAM what the whole value makes it.
use Rattle.std.proofs.Common.{◌≡◌, ◌-◌, ◌≤◌, length}
use Rattle.cpu.specs.Bytes.{first_outside, bytes_before, split_stored}
use Rattle.cpu.proofs.bytes.store_split.Given as goal

abbrev pub invariant-loop-i : goal.invariant-loop-i
invariant-loop-i l = record {
  within : l.i ≤ l.n;
  long : length l.ram ≡ length l.fn.ram;
  judged : first_outside l.base (length l.ram) l.p l.i (l.n - l.i) ≡ first_outside l.base (length l.fn.ram) l.p 0 l.n;
  left :
      split_stored l.base l.p l.v l.i (bytes_before (first_outside l.base (length l.ram) l.p l.i (l.n - l.i)) l.n - l.i) l.ram
      ≡ split_stored l.base l.p l.value 0 (bytes_before (first_outside l.base (length l.fn.ram) l.p 0 l.n) l.n) l.fn.ram;
}

abbrev pub decreases-loop-i : goal.decreases-loop-i
decreases-loop-i l = l.n - l.i
