use Rattle.transparency.proofs.Counted.{write-modelled, write-quiet, write-flushes, write-retags}
use Rattle.transparency.proofs.theorems.counted_writes.Goals as goal

pub returns : goal.returns
returns c = assumption (write-modelled, write-quiet, write-flushes, write-retags)
