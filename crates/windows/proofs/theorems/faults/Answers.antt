use Rattle.windows.proofs.Meaning.{told-page, before-told, all-reached}
use Rattle.windows.proofs.theorems.faults.Goals as goal

pub returns : goal.returns
returns c = assumption (told-page, before-told, all-reached)
