use Rattle.std.proofs.Common.{◌≡◌, ◌+◌, ◌-◌, ◌≤◌}
use Rattle.digest.specs.Fold.{digest_from, digest_of, gathered}
use Rattle.digest.specs.Parts.{hint_words}
use Rattle.digest.specs.Count.{how_many, set_at, set_data_hints}
use Rattle.digest.proofs.parts.data_hints.Given as goal

abbrev pub invariant-loop-i : goal.invariant-loop-i
invariant-loop-i l = record {
  within : l.i ≤ 512;
  rest : digest_from l.s.digest (gathered (hint_words l.tlb) (512 - l.i) l.i)
      ≡ digest_of (gathered (hint_words l.tlb) 512 0);
  few : l.s.count ≤ l.i;
  left : l.s.count + how_many (set_at l.tlb) (512 - l.i) l.i ≡ set_data_hints l.tlb;
}
