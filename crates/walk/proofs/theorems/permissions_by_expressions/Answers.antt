use Rattle.std.proofs.Common.{rules}
use Rattle.walk.specs.Table.{leaf_permissions}
use Rattle.walk.proofs.theorems.permissions_by_expressions.Goals as goal

pub returns-clause-leaf : goal.returns-clause-leaf
unfolding leaf_permissions
returns-clause-leaf c = λ p l desc. search rules
