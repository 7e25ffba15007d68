use Rattle.transparency.proofs.LevelCounts.{call-level, others-stay, own-hits, own-walks, sums-call, quiet-stays, fetch-mark-free}
use Rattle.transparency.proofs.theorems.counter_moves.Goals as goal

pub returns : goal.returns
returns c = assumption (call-level, others-stay, own-hits, own-walks, sums-call, quiet-stays, fetch-mark-free)
