use Rattle.transparency.proofs.Direct.{translate-after, data-pa-after, fetch-pa-after}
use Rattle.transparency.proofs.theorems.one_translation.Goals as goal

pub returns : goal.returns
returns c = assumption (translate-after, data-pa-after, fetch-pa-after)
