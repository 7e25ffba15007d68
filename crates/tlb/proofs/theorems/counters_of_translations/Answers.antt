use Rattle.tlb.proofs.Translations.{translate-counts, fetch-counts, counted-others, mark-free, sums-move}
use Rattle.tlb.proofs.Cells.{hit-counted, walk-counted}
use Rattle.tlb.proofs.theorems.counters_of_translations.Goals as goal

pub returns : goal.returns
returns c = assumption (translate-counts, fetch-counts, counted-others, mark-free, sums-move, hit-counted, walk-counted)
