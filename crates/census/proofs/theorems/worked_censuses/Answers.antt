use Rattle.census.specs.Cases.{worked-places, worked-levels}
use Rattle.census.proofs.theorems.worked_censuses.Goals as goal

pub returns-clause-places : goal.returns-clause-places
returns-clause-places c = worked-places

pub returns-clause-levels : goal.returns-clause-levels
returns-clause-levels c = worked-levels
