use Rattle.transparency.proofs.Faults.{every-replied-fault}
use Rattle.transparency.proofs.theorems.every_fault.Goals as goal

pub returns : goal.returns
returns c = assumption every-replied-fault
