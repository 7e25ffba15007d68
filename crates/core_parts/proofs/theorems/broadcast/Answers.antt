use Rattle.core_parts.proofs.Set.{arrives}
use Rattle.core_parts.proofs.theorems.broadcast.Goals as goal

pub returns : goal.returns
returns c = arrives
