use Rattle.std.proofs.Common.{rules}
use Rattle.walk.proofs.Levels.{table-onward}
use Rattle.walk.proofs.level.table_step.Goals as goal

pub returns-clause-result_value : goal.returns-clause-result_value
returns-clause-result_value c = search (table-onward, rules)
