use Rattle.transparency.proofs.Counted.{translate-counted, data-pa-counted, fetch-pa-counted, fetch-counted}
use Rattle.transparency.proofs.theorems.counted_translations.Goals as goal

pub returns : goal.returns
returns c = assumption (translate-counted, data-pa-counted, fetch-pa-counted, fetch-counted)
