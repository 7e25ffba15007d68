use Rattle.cluster.proofs.EveryCore.{each-bridge, each-modelled}
use Rattle.cluster.proofs.theorems.every_core_modelled.Goals as goal

pub returns : goal.returns
returns c = assumption (each-bridge, each-modelled)
