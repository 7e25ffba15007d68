use Rattle.windows.proofs.Meaning.{fault-told}
use Rattle.windows.proofs.theorems.fault_before_pair.Goals as goal

pub returns : goal.returns
returns c = assumption (fault-told)
