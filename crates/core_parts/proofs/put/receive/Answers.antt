use Rattle.core_parts.proofs.Ends.{received_as}
use Rattle.core_parts.proofs.put.receive.Goals as goal

pub returns-in-Some-clause-core : goal.returns-in-Some-clause-core
returns-in-Some-clause-core c = received_as _ _ _ _ _ c.inval_named.ensures c.in-Some.is c.invalidate.ensures
