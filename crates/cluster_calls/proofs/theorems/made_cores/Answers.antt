use Rattle.cluster_calls.proofs.Made.{made-is-after}
use Rattle.cluster_calls.proofs.theorems.made_cores.Goals as goal

pub returns : goal.returns
returns c = record { made = made-is-after }
