-- No window before this one meets another, and this one meets none before that one.
use Rattle.windows.specs.Rows.{row_of}
use Rattle.windows.proofs.Pairing.{NoneBelow, NoneBefore}
use Rattle.windows.proofs.pairs.first_pair.Given as goal

abbrev pub invariant-loop-k : goal.invariant-loop-k
invariant-loop-k l = NoneBelow (row_of l.list.windows l.pages) l.list.count l.i l.k

abbrev pub invariant-loop-i : goal.invariant-loop-i
invariant-loop-i l = NoneBefore (row_of l.list.windows l.pages) l.list.count l.i
