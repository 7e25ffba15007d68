-- An operation is counted once.
use Rattle.reads_report.proofs.Laws.{counts}
use Rattle.reads_report.proofs.theorems.counting_of_operations.Goals as goal

pub returns : goal.returns
returns c = counts
