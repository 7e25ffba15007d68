use Rattle.cluster.proofs.Laws.{eight-first}
use Rattle.cluster.proofs.theorems.every_number.Goals as goal

pub returns : goal.returns
returns c = assumption eight-first
