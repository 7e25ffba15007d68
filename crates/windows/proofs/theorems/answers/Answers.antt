use Rattle.windows.proofs.Answered.{answered}
use Rattle.windows.proofs.theorems.answers.Goals as goal

pub returns : goal.returns
returns c = answered
