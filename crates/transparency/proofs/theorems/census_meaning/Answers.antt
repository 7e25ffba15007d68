use Rattle.transparency.proofs.Census.{census-faults, rights-allow, flat-allows}
use Rattle.transparency.proofs.theorems.census_meaning.Goals as goal

pub returns : goal.returns
returns c = assumption (census-faults, rights-allow, flat-allows)
