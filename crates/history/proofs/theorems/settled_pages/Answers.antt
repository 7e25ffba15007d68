use Rattle.history.specs.Instance.{real, fresh_plain}
use Rattle.history.proofs.Instance.{real-laws}
use Rattle.history.proofs.Neighbours.{own-settled}
use Rattle.history.proofs.StepByStep.{steps-settled}
use Rattle.history.proofs.Corollaries.{off-settled}
use Rattle.history.proofs.Traced.{covered-as-dropped}
use Rattle.history.proofs.theorems.settled_pages.Goals as goal

pub returns-clause-off : goal.returns-clause-off
returns-clause-off c = off-settled real real-laws fresh_plain

pub returns-clause-steps : goal.returns-clause-steps
returns-clause-steps c = steps-settled real fresh_plain

pub returns-clause-asid : goal.returns-clause-asid
returns-clause-asid c = own-settled real fresh_plain

pub returns-clause-covered : goal.returns-clause-covered
returns-clause-covered c = covered-as-dropped
