use Rattle.std.proofs.Common.{rules}
use Rattle.walk.proofs.Loop.{begins-standing}
use Rattle.walk.proofs.regime.Bank.visit.Goals as goal

pub visit_from-requires-clause-standing : goal.visit_from-requires-clause-standing
visit_from-requires-clause-standing c = search (begins-standing, rules)
