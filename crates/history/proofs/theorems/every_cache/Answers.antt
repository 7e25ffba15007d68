use Rattle.std.proofs.Common.{arith}
use Rattle.history.specs.Instance.{real, fresh_plain}
use Rattle.history.proofs.Instance.{real-laws, fresh-asid}
use Rattle.history.proofs.ModelLaws.{run-stands, fresh-stands, history-answers}
use Rattle.history.proofs.Theorem.{history-asid}
use Rattle.history.proofs.theorems.every_cache.Goals as goal

pub returns-clause-modelled : goal.returns-clause-modelled
returns-clause-modelled c =
    λ past. run-stands real real-laws past fresh_plain (omega arith) (fresh-stands real real-laws)

pub returns-clause-answers : goal.returns-clause-answers
returns-clause-answers c = λ past m s. history-answers real real-laws fresh_plain (omega arith) past m s.asks

pub returns-clause-asid : goal.returns-clause-asid
returns-clause-asid c = history-asid real real-laws fresh_plain fresh-asid (omega arith)
