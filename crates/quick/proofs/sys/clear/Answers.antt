use Rattle.std.proofs.Common.{arith}
use Rattle.quick.proofs.Line.{cleared}
use Rattle.quick.proofs.sys.clear.Goals as goal

pub returns-then-pa-eq0 : goal.returns-then-pa-eq0
returns-then-pa-eq0 c = grind (arith, cleared)
