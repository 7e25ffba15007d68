use Rattle.core_transparency.proofs.Whole.{call-keeps-whole, made-is-whole, made-is-saved}
use Rattle.core_transparency.proofs.theorems.whole_core.Goals as goal

pub returns-clause-call : goal.returns-clause-call
returns-clause-call c = call-keeps-whole

pub returns-clause-list : goal.returns-clause-list
returns-clause-list c = made-is-whole

pub returns-clause-saved : goal.returns-clause-saved
returns-clause-saved c = made-is-saved
