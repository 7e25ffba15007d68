use Rattle.transparency.proofs.Beside.{two-cores}
use Rattle.transparency.proofs.theorems.both_cores.Goals as goal

pub returns : goal.returns
returns c = assumption two-cores
