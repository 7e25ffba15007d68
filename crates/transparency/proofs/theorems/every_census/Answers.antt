use Rattle.transparency.proofs.Census.{census-after}
use Rattle.transparency.proofs.theorems.every_census.Goals as goal

pub returns : goal.returns
returns c = assumption census-after
