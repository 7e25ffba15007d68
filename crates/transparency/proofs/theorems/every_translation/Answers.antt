use Rattle.transparency.proofs.Instance.{every-translation}
use Rattle.transparency.proofs.Faithful.{every-list-shown}
use Rattle.transparency.proofs.theorems.every_translation.Goals as goal

pub returns : goal.returns
returns c = assumption (every-translation, every-list-shown)
