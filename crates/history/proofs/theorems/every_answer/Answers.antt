use Rattle.history.proofs.EveryJudgement.{every-origin, every-judgement, every-fault-row}
use Rattle.history.proofs.theorems.every_answer.Goals as goal

pub returns : goal.returns
returns c = assumption (every-origin, every-judgement, every-fault-row)
