-- The counters by level of a core that calls made are those of the core after the list.
use Rattle.std.proofs.Common.{ap, ◌∙◌}
use Rattle.tlb.specs.Tlb.{tally_at}
use Rattle.cpu.specs.declared.Core.{Core}
use Rattle.transparency.specs.LevelCounts.{totals_of}
use Rattle.transparency.proofs.LevelCounts.{level-hits, level-walks, sums-list}
use Rattle.core_transparency.specs.OnCore.{made-core}
use Rattle.core_transparency.specs.Counters.{hits_on_core, walks_on_core, sums_on_core}

pub hits-on-core : hits_on_core
hits-on-core c list m l h = ap (λ (d : Core). (tally_at d.tlb l).hits) (made-core c list m) ∙ level-hits list l

pub walks-on-core : walks_on_core
walks-on-core c list m l h = ap (λ (d : Core). (tally_at d.tlb l).walks) (made-core c list m) ∙ level-walks list l

pub sums-on-core : sums_on_core
sums-on-core c list m = ap (λ (d : Core). totals_of d.tlb) (made-core c list m) ∙ sums-list list
