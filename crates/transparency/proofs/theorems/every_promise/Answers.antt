use Rattle.transparency.proofs.Faithful.{faithful-step}
use Rattle.transparency.proofs.theorems.every_promise.Goals as goal

pub returns : goal.returns
returns c = assumption faithful-step
