use Rattle.cluster.proofs.Laws.{left-as-shared, local-tlbi}
use Rattle.cluster.proofs.theorems.what_is_shared.Goals as goal

pub returns : goal.returns
returns c = assumption (left-as-shared, local-tlbi)
