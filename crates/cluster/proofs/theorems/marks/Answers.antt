use Rattle.cluster.proofs.Laws.{never-pending, caller-cleared, caller-same, refused-same}
use Rattle.cluster.proofs.theorems.marks.Goals as goal

pub returns : goal.returns
returns c = assumption (never-pending, caller-cleared, caller-same, refused-same)
