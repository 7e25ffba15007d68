use Rattle.system.proofs.Words.{manual-par, par-f, flat-fault, par-small}
use Rattle.system.proofs.theorems.meaning_of_par.Goals as goal

pub returns : goal.returns
returns c = assumption (manual-par, par-f, flat-fault, par-small)
