use Rattle.history.proofs.Fresh.{uncached-fresh}
use Rattle.history.proofs.Judgement.{uncached-checked}
use Rattle.history.proofs.theorems.without_cache.Goals as goal

pub returns : goal.returns
returns c = assumption (uncached-fresh, uncached-checked)
