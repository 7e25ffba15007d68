-- No page before this one faults, and the row begins with their physical pages.
use Rattle.word.specs.Ram.{word_at}
use Rattle.windows.proofs.Filling.{Filled}
use Rattle.windows.proofs.pages.window_pages.Given as goal

abbrev pub invariant-loop-page : goal.invariant-loop-page
invariant-loop-page l = Filled l.s l.regime (word_at l.base l.ram 8) l.i l.w l.page l.row
