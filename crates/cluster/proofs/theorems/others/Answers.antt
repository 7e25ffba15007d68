use Rattle.cluster.proofs.Laws.{others-hear, others-stay, caller-alone}
use Rattle.cluster.proofs.theorems.others.Goals as goal

pub returns : goal.returns
returns c = assumption (others-hear, others-stay, caller-alone)
