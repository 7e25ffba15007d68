use Rattle.flip.proofs.ViewLaws.{at-el0, at-el1, at-el2, at-el3, told, off-none, no-level, no-window}
use Rattle.flip.proofs.theorems.views.Goals as goal

pub returns : goal.returns
returns c = assumption (at-el0, at-el1, at-el2, at-el3, told, off-none, no-level, no-window)
