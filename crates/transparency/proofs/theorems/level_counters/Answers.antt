use Rattle.transparency.proofs.LevelCounts.{level-hits, level-walks, sums-list}
use Rattle.transparency.proofs.theorems.level_counters.Goals as goal

pub returns : goal.returns
returns c = assumption (level-hits, level-walks, sums-list)
