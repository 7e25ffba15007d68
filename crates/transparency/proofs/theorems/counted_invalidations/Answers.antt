use Rattle.transparency.proofs.Counted.{tlbi-counted, page-counted, tlbi-all-counted, asid-counted, shared-pending, own-pending}
use Rattle.transparency.proofs.theorems.counted_invalidations.Goals as goal

pub returns : goal.returns
returns c = assumption (tlbi-counted, page-counted, tlbi-all-counted, asid-counted, shared-pending, own-pending)
