use Rattle.system.proofs.Words.{page-operand, asid-small}
use Rattle.system.proofs.theorems.operands_of_tlbi.Goals as goal

pub returns : goal.returns
returns c = assumption (page-operand, asid-small)
