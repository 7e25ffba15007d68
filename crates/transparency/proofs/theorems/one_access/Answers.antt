use Rattle.transparency.proofs.Direct.{access-after, load-after, store-after, fetch-after, zero-after}
use Rattle.transparency.proofs.theorems.one_access.Goals as goal

pub returns : goal.returns
returns c = assumption (access-after, load-after, store-after, fetch-after, zero-after)
