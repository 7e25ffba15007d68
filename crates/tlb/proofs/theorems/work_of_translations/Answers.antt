use Rattle.tlb.proofs.Works.{translation-work, fetch-work, nothing-read, walk-read}
use Rattle.tlb.proofs.theorems.work_of_translations.Goals as goal

pub returns : goal.returns
returns c = assumption (translation-work, fetch-work, nothing-read, walk-read)
