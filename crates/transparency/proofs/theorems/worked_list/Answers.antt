use Rattle.transparency.proofs.Worked.{tidied-settled, by-cache, start-stale, start-unsettled, counted-by-level, claim-met, claim-unmet, worked-reads}
use Rattle.transparency.proofs.theorems.worked_list.Goals as goal

pub returns : goal.returns
returns c = assumption (tidied-settled, by-cache, start-stale, start-unsettled, claim-met, claim-unmet, counted-by-level, worked-reads)
