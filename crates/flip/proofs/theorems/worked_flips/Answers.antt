use Rattle.flip.specs.Cases.{worked-descriptors, worked-tables, worked-views, worked-nothing}
use Rattle.flip.proofs.theorems.worked_flips.Goals as goal

pub returns : goal.returns
returns c = assumption (worked-descriptors, worked-tables, worked-views, worked-nothing)
