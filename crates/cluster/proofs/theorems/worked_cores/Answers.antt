use Rattle.cluster.proofs.Worked.{told-settled, told-right, again-settled, again-by-cache, untold-stale, untold-unsettled, stored-told}
use Rattle.cluster.proofs.theorems.worked_cores.Goals as goal

pub returns : goal.returns
returns c = assumption (told-settled, told-right, again-settled, again-by-cache, untold-stale, untold-unsettled, stored-told)
