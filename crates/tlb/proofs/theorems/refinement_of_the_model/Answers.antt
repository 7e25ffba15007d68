use Rattle.tlb.proofs.Refines.{fresh-live, flush-live, invalidate-live, retag-live, broadcast-live}
use Rattle.tlb.proofs.Translations.{translation-follows, fetch-follows}
use Rattle.tlb.proofs.theorems.refinement_of_the_model.Goals as goal

pub returns : goal.returns
returns c = assumption (fresh-live, translation-follows, fetch-follows, flush-live, invalidate-live, retag-live, broadcast-live)
