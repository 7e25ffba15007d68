-- The counts are those of the i pages before.
use Rattle.std.proofs.Common.{◌≡◌}
use Rattle.word.specs.Ram.{word_at}
use Rattle.census.specs.Count.{census_of}
use Rattle.census.proofs.count.count.Given as goal

abbrev pub invariant-loop-i : goal.invariant-loop-i
invariant-loop-i l = l.counts ≡ census_of l.s l.regime (word_at l.base l.ram 8) l.first l.i
