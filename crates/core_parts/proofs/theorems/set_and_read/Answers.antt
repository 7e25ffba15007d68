use Rattle.core_parts.proofs.Set.{set_there, set_alone, set_none}
use Rattle.core_parts.proofs.theorems.set_and_read.Goals as goal

pub returns-clause-there : goal.returns-clause-there
returns-clause-there c = set_there

pub returns-clause-alone : goal.returns-clause-alone
returns-clause-alone c = set_alone

pub returns-clause-none : goal.returns-clause-none
returns-clause-none c = set_none
