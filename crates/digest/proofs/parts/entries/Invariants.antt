use Rattle.std.proofs.Common.{◌≡◌, ◌+◌, ◌-◌, ◌≤◌}
use Rattle.digest.specs.Fold.{digest_from, digest_of, gathered}
use Rattle.digest.specs.Parts.{entry_words}
use Rattle.digest.specs.Count.{how_many, live_at, live_entries}
use Rattle.digest.proofs.parts.entries.Given as goal

abbrev pub invariant-loop-j : goal.invariant-loop-j
invariant-loop-j l = record {
  within : l.j ≤ 1024;
  rest : digest_from l.s.digest (gathered (entry_words l.core.tlb) (1024 - l.j) l.j)
      ≡ digest_of (gathered (entry_words l.core.tlb) 1024 0);
  few : l.s.count ≤ l.j;
  left : l.s.count + how_many (live_at l.core.tlb) (1024 - l.j) l.j ≡ live_entries l.core.tlb;
}
