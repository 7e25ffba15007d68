use Rattle.std.proofs.Common.{◌≡◌, ◌-◌, ◌/◌, ◌≤◌, length}
use Rattle.digest.specs.Fold.{digest_from, digest_of, gathered}
use Rattle.digest.specs.Window.{lane_word}
use Rattle.digest.proofs.memory.whole_lanes.Given as goal

abbrev pub invariant-loop-i : goal.invariant-loop-i
invariant-loop-i l = record {
  within : l.i ≤ l.n;
  first : digest_from l.a (gathered (lane_word l.ram 0) (length l.ram / 32 - l.i) l.i) ≡ digest_of (gathered (lane_word l.ram 0) (length l.ram / 32) 0);
  second : digest_from l.b (gathered (lane_word l.ram 1) (length l.ram / 32 - l.i) l.i) ≡ digest_of (gathered (lane_word l.ram 1) (length l.ram / 32) 0);
  third : digest_from l.c (gathered (lane_word l.ram 2) (length l.ram / 32 - l.i) l.i) ≡ digest_of (gathered (lane_word l.ram 2) (length l.ram / 32) 0);
  fourth : digest_from l.d (gathered (lane_word l.ram 3) (length l.ram / 32 - l.i) l.i) ≡ digest_of (gathered (lane_word l.ram 3) (length l.ram / 32) 0);
}

abbrev pub decreases-loop-i : goal.decreases-loop-i
decreases-loop-i l = l.n - l.i
