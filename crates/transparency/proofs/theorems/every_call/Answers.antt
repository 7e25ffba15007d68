use Rattle.transparency.proofs.ModelCalls.{every-call-modelled}
use Rattle.transparency.proofs.theorems.every_call.Goals as goal

pub returns : goal.returns
returns c = assumption every-call-modelled
