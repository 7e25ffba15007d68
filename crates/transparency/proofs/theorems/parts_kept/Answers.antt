use Rattle.transparency.proofs.Beside.{abort-leaves, level-leaves, mark-leaves, general-leaves, register-leaves}
use Rattle.transparency.proofs.theorems.parts_kept.Goals as goal

pub returns : goal.returns
returns c = assumption (abort-leaves, level-leaves, mark-leaves, general-leaves, register-leaves)
