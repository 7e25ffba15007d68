use Rattle.cluster.proofs.EveryCore.{each-faithful, each-by-answers, each-same, each-invisible, each-shown, runs, runs-bare}
use Rattle.cluster.proofs.theorems.every_core.Goals as goal

pub returns : goal.returns
returns c = assumption (each-faithful, each-by-answers, each-same, each-invisible, each-shown, runs, runs-bare)
