use Rattle.windows.proofs.Meaning.{told-pair, least-pair, none-share, apart-if}
use Rattle.windows.proofs.theorems.pairs.Goals as goal

pub returns : goal.returns
returns c = assumption (told-pair, least-pair, none-share, apart-if)
