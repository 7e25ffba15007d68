-- No page of a window before this one faults, and their rows begin with their physical pages.
use Rattle.word.specs.Ram.{word_at}
use Rattle.windows.proofs.Gathering.{Gathered}
use Rattle.windows.proofs.list.WindowList.pages_in.Given as goal

abbrev pub invariant-loop-i : goal.invariant-loop-i
invariant-loop-i l = Gathered l.s l.regime (word_at l.base l.ram 8) l.self.windows l.i l.rows
