use Rattle.transparency.proofs.Looks.{looking-calls, look-reply, look-skipped}
use Rattle.transparency.proofs.theorems.every_look.Goals as goal

pub returns : goal.returns
returns c = assumption (looking-calls, look-reply, look-skipped)
