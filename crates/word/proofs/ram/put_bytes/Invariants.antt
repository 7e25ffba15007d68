use Rattle.std.proofs.Common.{◌≡◌, ◌-◌, ◌≤◌, ◌++◌, length, take}
use Rattle.word.specs.Ram.{bytes_of}
use Rattle.word.proofs.ram.put_bytes.Given as goal

abbrev pub invariant-loop-i : goal.invariant-loop-i
invariant-loop-i l = record {
  within : l.i ≤ length l.part;
  so_far : take l.i l.part ++ bytes_of (length l.fn.part - l.i) l.v ≡ bytes_of (length l.fn.part) l.value;
}

abbrev pub decreases-loop-i : goal.decreases-loop-i
decreases-loop-i l = length l.part - l.i
