use Rattle.transparency.proofs.ModelCalls.{every-list-modelled, every-core-well}
use Rattle.transparency.proofs.theorems.every_core.Goals as goal

pub returns : goal.returns
returns c = assumption (every-core-well, every-list-modelled)
