use Rattle.transparency.proofs.Beside.{at-walks, at-after}
use Rattle.transparency.proofs.theorems.address_translation.Goals as goal

pub returns : goal.returns
returns c = assumption (at-walks, at-after)
