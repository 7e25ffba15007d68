use Rattle.transparency.proofs.Judged.{every-call-judged, every-row}
use Rattle.transparency.proofs.theorems.every_judgement.Goals as goal

pub returns : goal.returns
returns c = assumption (every-call-judged, every-row)
