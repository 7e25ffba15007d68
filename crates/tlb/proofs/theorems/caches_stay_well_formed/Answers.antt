use Rattle.std.proofs.Common.{rules}
use Rattle.tlb.proofs.Refines.{fresh-sound, invalidate-sound, retag-sound, broadcast-sound}
use Rattle.tlb.proofs.Translations.{translation-follows, fetch-follows}
use Rattle.tlb.proofs.theorems.caches_stay_well_formed.Goals as goal

pub returns : goal.returns
returns c = search (rules, fresh-sound, translation-follows, fetch-follows, invalidate-sound, retag-sound, broadcast-sound)
