use Rattle.windows.proofs.Encoding.{written-read}
use Rattle.windows.proofs.RightLaws.{right-read, read-right, wrong-told}
use Rattle.windows.proofs.Written.{read-written}
use Rattle.windows.proofs.theorems.lists.Goals as goal

pub returns : goal.returns
returns c = assumption (right-read, read-right, wrong-told, written-read, read-written)
