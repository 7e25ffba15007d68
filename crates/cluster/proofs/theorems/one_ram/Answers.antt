use Rattle.cluster.proofs.EveryCore.{one-ram, one-longer}
use Rattle.cluster.proofs.theorems.one_ram.Goals as goal

pub returns : goal.returns
returns c = assumption (one-ram, one-longer)
