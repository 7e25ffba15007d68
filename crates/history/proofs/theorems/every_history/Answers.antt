use Rattle.std.proofs.Common.{arith}
use Rattle.history.specs.Instance.{real, fresh_plain}
use Rattle.history.proofs.Instance.{real-laws, fresh-asid}
use Rattle.history.proofs.Corollaries.{invisible}
use Rattle.history.proofs.EveryHistory.{every-history}
use Rattle.history.proofs.theorems.every_history.Goals as goal

pub returns-clause-faithful : goal.returns-clause-faithful
returns-clause-faithful c = every-history

pub returns-clause-invisible : goal.returns-clause-invisible
returns-clause-invisible c = invisible real real-laws fresh_plain fresh-asid (omega arith)
