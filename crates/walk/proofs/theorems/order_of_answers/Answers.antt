use Rattle.std.proofs.Common.{arith}
use Rattle.walk.specs.Table.{leaf_result, level_next, table_next, lookup_next}
use Rattle.walk.proofs.Order.{leads, leaf-not-allowed}
use Rattle.walk.proofs.theorems.order_of_answers.Goals as goal

pub returns-clause-leaf_not_allowed : goal.returns-clause-leaf_not_allowed
returns-clause-leaf_not_allowed c = leaf-not-allowed

pub returns-clause-table_too_large : goal.returns-clause-table_too_large
unfolding lookup_next level_next table_next
returns-clause-table_too_large c = λ s r va memory l h desc word t b. let w = leads s r va memory l h in grind arith

pub returns-clause-table_leads_on : goal.returns-clause-table_leads_on
unfolding lookup_next level_next table_next
returns-clause-table_leads_on c = λ s r va memory l h desc word t b. let w = leads s r va memory l h in grind arith

pub returns-clause-leaf_too_large : goal.returns-clause-leaf_too_large
unfolding lookup_next level_next leaf_result
returns-clause-leaf_too_large c = λ s r va memory l h desc word t b. let w = leads s r va memory l h in grind arith

pub returns-clause-leaf_unused : goal.returns-clause-leaf_unused
unfolding lookup_next level_next leaf_result
returns-clause-leaf_unused c = λ s r va memory l h desc word t b f. let w = leads s r va memory l h in grind arith

pub returns-clause-leaf_found : goal.returns-clause-leaf_found
unfolding lookup_next level_next leaf_result
returns-clause-leaf_found c = λ s r va memory l h desc word t b f. let w = leads s r va memory l h in grind arith
