use Rattle.transparency.proofs.Beside.{refused-bare, refused-core, refused-after}
use Rattle.transparency.proofs.LevelCounts.{refused-stays}
use Rattle.transparency.proofs.theorems.refused_calls.Goals as goal

pub returns : goal.returns
returns c = assumption (refused-bare, refused-core, refused-after, refused-stays)
